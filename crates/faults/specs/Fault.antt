-- The number of each test in the table of refusals. Document 01, "What a call says"; document 02, 1/14, for 14, 5/14 for 15 and 6/14 for 16. Definitions only.
use Rattle.std.specs.Prelude.{ℕ, Result, Ok, Err}
use Rattle.faults.specs.declared.fault.Fault.{Fault}
use Rattle.faults.specs.declared.fault.Fault.TheVariants.{Short, Header, Counts, Offsets, Shape, Names, Limits, Drag, Scratch, Room, Unsuited, Tangent, Relation, Teeth, Parameters, Portion}

abbrev pub number : Fault → ℕ
number Short = 1
number Header = 2
number Counts = 3
number Offsets = 4
number Shape = 5
number Names = 6
number Limits = 7
number Drag = 8
number Scratch = 9
number Room = 10
number Unsuited = 11
number Tangent = 12
number Relation = 13
number Teeth = 14
number Parameters = 15
number Portion = 16

-- 0 where no test refuses
abbrev pub number_of : {A : Type 0} → Result A Fault → ℕ
number_of (Ok a) = 0
number_of (Err fault) = number fault
