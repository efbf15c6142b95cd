-- The motions that `body_dof` holds as free: those of the first pairs of its array. Definitions only.
use Rattle.std.specs.Prelude.{List, map, take, Float}
use Rattle.body_freedom.specs.BodyFreedom.{motion_of}
use Rattle.body_freedom.specs.declared.body.Free.{Free}

-- the free motions that an array holds
abbrev pub motions : Free → List (List Float)
motions f = map motion_of (take f.count f.pairs)
