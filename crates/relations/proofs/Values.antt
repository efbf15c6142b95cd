-- A struct of the code is its numbers: from what a promise says of a result's numbers, the result itself. Assumes nothing.
use lib.Ieee.{Float}
use Rattle.vectors.specs.declared.vec.Vec3.{Vec3}
use Rattle.vectors.specs.Vec.{Vec}

abbrev pub vec3 : Vec Float → Vec3
vec3 v = record { x = v.x; y = v.y; z = v.z }
