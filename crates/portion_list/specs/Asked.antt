-- What asked.rt and solving.rt make of a call's numbers; what the numbers are is the list's to say. Definitions only.
use Rattle.std.specs.Prelude.{ℕ, ◌%◌, ◌^◌, Bool, cond, ◌&&◌, nat_le, nat_lt, nat_eq, ◌≡◌, Option, Some, None, is_some, Result, MatchResult}
use Rattle.portion_list.specs.declared.asked.Call.{Call}
use Rattle.portion_list.specs.declared.asked.Step.{Step}
use Rattle.portion_list.specs.declared.asked.UnknownStep.{UnknownStep}
use Rattle.portion_list.specs.declared.asked.Step.TheVariants.{Begin, On}
use Rattle.portion_list.specs.declared.asked.Chosen.{Chosen}
use Rattle.portion_list.specs.declared.asked.Lengths.{Lengths}
use Rattle.portion_list.specs.declared.solving.Arguments.{Arguments}
use Rattle.portion_list.specs.declared.solving.Values.{Values}

-- n, or most if that is less
abbrev pub at_most : ℕ → ℕ → ℕ
at_most n most = cond (nat_lt most n) most n

-- the call that the number n names
abbrev pub step_of : ℕ → Option Step
step_of n = cond (nat_eq n 0) (Some Begin) (cond (nat_eq n 1) (Some On) None)

-- a step that the number names, or an error with the number, which names none
abbrev pub Decodes : ℕ → Result Step UnknownStep → Type 0
Decodes n r = MatchResult r (λ step. step_of n ≡ Some step) (λ e. (e.0 ≡ n) × (step_of n ≡ None))

-- so many doubles are there to lend
unfoldable pub lengths_fit : Lengths → ℕ → Bool
lengths_fit l given =
    nat_le 1 given && (nat_le given 256 && (nat_le l.state given && (nat_le l.scratch 4096
    && (nat_le l.poses 256 && (nat_le l.frames 256 && nat_le l.errors 256)))))

-- a call is named, and each number is in the range of the parameter that takes it
unfoldable pub counts_fit : Call → Chosen → Bool
counts_fit c q =
    is_some c.step && (nat_le c.drag 0xFFFF && (nat_le q.rounds 0xFFFF_FFFF && (nat_le q.limit 0xFFFF_FFFF
    && (nat_le c.portion 0xFFFF_FFFF && (nat_le c.unknowns 0xFFFF_FFFF && nat_le c.rows 0xFFFF_FFFF)))))

abbrev pub fits : Call → ℕ → ℕ → ℕ → Bool
fits c given done run =
    counts_fit c c.chosen && (lengths_fit c.lengths given && (nat_le done 0xFFFF_FFFF && nat_le run 0xFF))

-- what a call hands over by value, each number cut to its place: of a call that fits nothing is cut off
abbrev pub arguments_of : Call → Arguments
arguments_of c =
    record {
      drag = c.drag % 2 ^ 16;
      tolerance = c.chosen.tolerance;
      rounds = c.chosen.rounds % 2 ^ 32;
      limit = c.chosen.limit % 2 ^ 32;
      weight = c.chosen.weight;
      portion = c.portion % 2 ^ 32;
    }

-- the whole numbers before a call, cut likewise; no number yet, and the flag is 77
abbrev pub values_before : ℕ → ℕ → ℕ → ℕ → Values
values_before unknowns rows done run =
    record {
      number = 0;
      unknowns = unknowns % 2 ^ 32;
      rows = rows % 2 ^ 32;
      done = done % 2 ^ 32;
      run = run % 2 ^ 8;
      converged = 77;
    }
