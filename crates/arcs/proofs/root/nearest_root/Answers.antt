-- `arcs::root::nearest_root` meets its contract: with M for m * 2 ^ 52, M - c * c is v - w, and its place among -3 * c, -c, c and 3 * c says which of c - 1, c and c + 1 is nearest. Assumes nothing.
use Prim.Native.Nat.{ℕ, zero, suc, ◌+◌, ◌-◌, ◌*◌, ◌^◌, ◌≤◌, ◌<◌}
use mathlib.Core.Path.{◌≡◌}
use native.Mathlib.Nat.{lt_irrefl, lt_of_not-le}
use native.Mathlib.Decide.{dec_le}
use native.Mathlib.Omega.{arith}
use Rattle.arcs.specs.RootSteps.{WholeRoot, Squared, Flag}
use Rattle.arcs.proofs.root.nearest_root.Goals as goal

-- the neighbour, as the two comparisons say; c is p + 1
module _ (m p v w a b : ℕ) (e : m + w ≡ suc p * suc p + v) (up : v ≤ w + suc p * 3 + 2) (down : w + 2 < v + suc p * 3) (fa : Flag (w + suc p) v a) (fb : Flag w (v + suc p) b) where
  more : w + suc p < v → WholeRoot m (suc p + a + b - 1)
  more h =
      let q : suc p + a + b - 1 ≡ p + 2 = omega (arith, fa.one h, fb.one (omega arith)) in
      rw q (record { low = omega arith; high = omega arith })

  fewer : v + suc p ≤ w → WholeRoot m (suc p + a + b - 1)
  fewer h =
      let q : suc p + a + b - 1 ≡ p = omega (arith, fa.none (omega arith), fb.none h) in
      rw q (record { low = omega arith; high = omega arith })

  same : v ≤ w + suc p → w < v + suc p → WholeRoot m (suc p + a + b - 1)
  same h k =
      let q : suc p + a + b - 1 ≡ p + 1 = omega (arith, fa.none h, fb.one k) in
      rw q (record { low = omega arith; high = omega arith })

  chosen : WholeRoot m (suc p + a + b - 1)
  chosen = go (dec_le v (w + suc p)) (dec_le (v + suc p) w)
    where
      go : Dec (v ≤ w + suc p) → Dec (v + suc p ≤ w) → WholeRoot m (suc p + a + b - 1)
      go (no f) d = more (lt_of_not-le f)
      go (yes l) (yes h) = fewer h
      go (yes l) (no f) = same l (lt_of_not-le f)

found : (m c v w a b : ℕ) → 0 < c → m + w ≡ c * c + v → v ≤ w + c * 3 + 2 → w + 2 < v + c * 3 → Flag (w + c) v a → Flag w (v + c) b → WholeRoot m (c + a + b - 1)
found m zero v w a b p e up down fa fb = absurd (lt_irrefl 0 p)
found m (suc c) v w a b p e up down fa fb = chosen m c v w a b e up down fa fb

remainder : (m c high low : ℕ) → Squared c high low → high ≤ m + 4 → m * 2 ^ 52 + (low + 4 * 2 ^ 52) ≡ c * c + (m + 4 - high) * 2 ^ 52
remainder m c high low s h = omega (arith, s.same)

pub returns-then-w-v : goal.returns-then-w-v
returns-then-w-v c = found _ _ _ _ _ _ (omega arith) (remainder _ _ _ _ c.squared-s.ensures c.if-high-m.true) c.if-v-w.true c.if-w-v.true c.less.ensures c.less-then-w-v.ensures
