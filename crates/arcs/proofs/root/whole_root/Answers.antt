-- `arcs::root::whole_root` meets its contract. The invariant: of m * 2 ^ 52, written with 53 digits of base 4, the first i are q * q + rem, with q the whole part of their root,
-- and the others are `rest`, at the top of a word. After 53 turns q * q + rem is m * 2 ^ 52, and rem against q decides the rounding. Assumes nothing.
use Prim.Native.Nat.{ℕ, zero, suc, ◌+◌, ◌-◌, ◌*◌, ◌/◌, ◌%◌, ◌^◌, ◌≤◌, ◌<◌}
use mathlib.Core.Path.{◌≡◌, subst}
use native.Mathlib.Nat.{le_antisymm, mul_comm, mul_left_comm, pow-succ'}
use native.Mathlib.Numerals.{add-one}
use native.Mathlib.Omega.{arith}
use lib.Pow.{pow_mono}
use Rattle.arcs.specs.RootSteps.{WholeRoot}
use Rattle.arcs.proofs.root.whole_root.Invariants.{Turn}
use Rattle.arcs.proofs.root.whole_root.Goals as goal
use Rattle.arcs.proofs.root.whole_root.Goals.{then-q-more, else-q-more}

start : (m : ℕ) → m < 2 ^ 54 → Turn m 0 0 (m * 0x400) 0
start m h = record { sum = omega arith; left = omega arith; digits = omega arith; small = omega arith; word = omega arith; turns = omega arith }

-- a turn brings down the top digit of `rest`
module _ (m q rem rest i : ℕ) (t : Turn m q rem rest i) (l : i < 53) where
  next_sum : m * 0x400 * 4 ^ (i + 1) ≡ 4 * (m * 0x400 * 4 ^ i)
  next_sum = rw (add-one i, pow-succ' 4 i) (simp (mul_comm, mul_left_comm))

  next_digits : 2 ^ (i + 1) ≡ 2 * 2 ^ i
  next_digits = rw (add-one i, pow-succ' 2 i)

  next_small : 2 ^ (i + 1) ≤ 2 ^ 53
  next_small = pow_mono {i = i + 1} {j = 53} (omega arith)

  digit_one : q * 4 < rem * 4 + rest / 2 ^ 62 → Turn m (q * 2 + 1) (rem * 4 + rest / 2 ^ 62 - (q * 4 + 1)) (rest % 2 ^ 62 * 4) (i + 1)
  digit_one h = record { sum = omega (arith, next_sum); left = omega arith; digits = omega (arith, next_digits); small = omega (arith, next_digits, next_small); word = omega arith; turns = omega arith }

  digit_zero : rem * 4 + rest / 2 ^ 62 ≤ q * 4 → Turn m (q * 2) (rem * 4 + rest / 2 ^ 62) (rest % 2 ^ 62 * 4) (i + 1)
  digit_zero h = record { sum = omega (arith, next_sum); left = omega arith; digits = omega (arith, next_digits); small = omega (arith, next_digits, next_small); word = omega arith; turns = omega arith }

whole : (m q rem rest i : ℕ) → Turn m q rem rest i → 53 ≤ i → q * q + rem ≡ m * 2 ^ 52
whole m q rem rest i t l =
    let all : (q * q + rem) * 2 ^ 64 + rest ≡ m * 0x400 * 4 ^ 53 = subst (λ (z : ℕ). (q * q + rem) * 2 ^ 64 + rest ≡ m * 0x400 * 4 ^ z) (le_antisymm t.turns l) t.sum in
    omega (arith, all, t.word)

rounded_up : (m q rem : ℕ) → q * q + rem ≡ m → rem ≤ 2 * q → q < rem → WholeRoot m (q + 1)
rounded_up m q rem e l h = record { low = omega arith; high = omega arith }

rounded_down : (m q rem : ℕ) → q * q + rem ≡ m → 0 < m → rem ≤ q → WholeRoot m q
rounded_down m zero rem e p h = record { low = omega arith; high = omega arith }
rounded_down m (suc q) rem e p h = record { low = omega arith; high = omega arith }

pub loop-init : goal.loop-init
loop-init c = start c.args.m c.requires.1

pub loop-preserved : goal.loop-preserved
loop-preserved c =
    let t = c.loop.invariant in
    let l = c.loop-test.true in
    elim c.if-q-more.branch [
      | then-q-more w ↦ rw (w.q-is, w.rem-is) (digit_one _ _ _ _ _ t l w.if-q-more.true)
      | else-q-more w ↦ rw (w.q-is, w.rem-is) (digit_zero _ _ _ _ _ t l w.if-q-more.false)
    ]

pub returns-then-q-rem : goal.returns-then-q-rem
returns-then-q-rem c =
    let t = c.loop.invariant in
    rounded_up _ _ _ (whole _ _ _ _ _ t c.loop-test.false) t.left c.if-q-rem.true

pub returns-else-q-rem : goal.returns-else-q-rem
returns-else-q-rem c =
    let t = c.loop.invariant in
    rounded_down _ _ _ (whole _ _ _ _ _ t c.loop-test.false) (omega arith) c.if-q-rem.false
