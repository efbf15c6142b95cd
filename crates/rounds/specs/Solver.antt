-- How much of the lent scratch a run's parts take. Definitions only.
use Rattle.std.specs.Prelude.{ℕ, ◌+◌, ◌*◌}
use Rattle.rounds.specs.declared.parts.Solver.{Solver as SolverStruct}

-- the parts end behind the poses of m bodies
abbrev pub parts_end : SolverStruct → ℕ
parts_end v = v.parts.poses + 12 * v.sheet.scene.m
