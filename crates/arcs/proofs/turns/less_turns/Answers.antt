-- `arcs::turns::less_turns` meets its contract: an estimate that the tests let through is the number of turns (`estimate_right`), and else the turns are counted. Assumes nothing.
use Prim.Native.Nat.{ℕ, ◌%◌, ◌^◌, ◌<◌}
use mathlib.Core.Path.{◌≡◌, sym, ap, subst}
use mathlib.Core.Bool.{Bool, true, not}
use native.Mathlib.Nat.{le_trans, le_of_lt}
use native.Mathlib.Omega.{arith}
use lib.IntN.{pos}
use lib.Dec.{T, le→leb, leb→le}
use lib.Ieee.{Float, binary64, add, sub, mul, lt, le, eq, fits, of_int, of_bits, to_bits, in_float}
use lib.Ieee.Fits.{sub-fits}
use Rattle.arcs.specs.Arcs.{tau1, tau2, far, turns, less_turns}
use Rattle.arcs.proofs.FarLaws.{far_between, units46, far_value}
use Rattle.arcs.proofs.LeftLaws.{least, quotient_number, same_whole, estimate_right}
use Rattle.arcs.proofs.turns.less_turns.Goals as goal

passes : {b : Bool} → b ≡ true → T b
passes e = subst T (sym e) tt

-- a double k that is the whole number n, and leaves what the tests let through
found : (t k : Float) (n : ℕ) → T (fits binary64 t) → T (far t) → T (fits binary64 k) → n < 2 ^ 18 → 0 < n → T (eq k (of_int binary64 (pos n))) → T (le least (sub binary64 t (mul binary64 k tau1)))
    → T (lt (sub binary64 t (mul binary64 k tau1)) tau1) → sub binary64 (sub binary64 t (mul binary64 k tau1)) (mul binary64 k tau2) ≡ less_turns t (turns t)
unfolding less_turns
found t k n f h g small some same from under =
    let e = same_whole n small k g some same in
    let l : T (le least (sub binary64 t (mul binary64 (of_int binary64 (pos n)) tau1))) = subst (λ (x : Float). T (le least (sub binary64 t (mul binary64 x tau1)))) e from in
    let u : T (lt (sub binary64 t (mul binary64 (of_int binary64 (pos n)) tau1)) tau1) = subst (λ (x : Float). T (lt (sub binary64 t (mul binary64 x tau1)) tau1)) e under in
    rw e (ap (less_turns t) (estimate_right n small t (units46 t f h) (far_value t f h) l u))

below : (b : ℕ) → b % 0x4_0000 < 2 ^ 18
below b = omega arith

pub float_to_bits-near : goal.float_to_bits-near
float_to_bits-near c = subst (λ (b : Bool). T (not b)) (sym (quotient_number c.args.t (far_between c.args.t c.requires).above)) tt

pub int_to_float-near : goal.int_to_float-near
unfolding in_float
int_to_float-near c =
    let x = add binary64 (mul binary64 c.args.t (of_bits binary64 0x3FC4_5F30_6DC9_C883)) (of_bits binary64 0x432F_FFFF_FFFF_FFFF) in
    le→leb (to_bits binary64 x % 0x4_0000) (2 ^ 53) (le_trans (le_of_lt (below (to_bits binary64 x))) (leb→le (2 ^ 18) (2 ^ 53) tt))

-- `held` is what owning an `f64` tells: the format holds it
pub returns-then-left-2 : goal.returns-then-left-2
unfolding of_bits
returns-then-left-2 c =
    let held : T (fits binary64 c.args.t) =
    subst T (sym c.well_formed.0.1) tt in
    found c.args.t _ _ held c.requires (sub-fits binary64 _ _) (below _) c.if-near-gt0.true (passes c.if-k-near.true) (passes c.if-left.true) (passes c.if-left-2.true)

pub turns-k-requires : goal.turns-k-requires
turns-k-requires c = c.requires

pub int_to_float-k : goal.int_to_float-k
unfolding in_float
int_to_float-k c = le→leb c.turns-k.result (2 ^ 53) (omega (arith, c.turns-k.ensures.1))

pub returns : goal.returns
unfolding less_turns
returns c = ap (less_turns _) c.turns-k.ensures.0
