-- The remainder by T of a double from 0 up to T is the double itself, so that the division is left out there. Assumes nothing.
use mathlib.Core.Path.{◌≡◌, refl, ap, ◌∙◌}
use Prim.Native.Nat.{ℕ, zero, suc, ◌*◌, ◌<◌}
use native.Mathlib.Nat.{mod-eq_of_lt, mul_assoc, mul_comm, mul-pos, zero-lt-suc, zero-mul, mul-one}
use native.Mathlib.Omega.{arith}
use mathlib.Core.Bool.{Bool, true, false, ◌&&◌, false≢true}
use lib.IntN.{ℤ, negsuc}
use lib.Dec.{T, eqb}
use lib.Ieee.{Float, nan, inf, fin, Format, binary64, up, down, rem, lt, le, eq, fits, of_bits}
use lib.Ieee.Fits.{up_pos, down_pos}
use lib.Ieee.Scale.{round_same}
use borrow.Author.Tests.{ltb-true, eqb-true, ne_eqb}
use Rattle.numbers.specs.Double.{zero64}
use Rattle.numbers.proofs.ZeroLaws.{round_own}
use Rattle.arcs.specs.Arcs.{tau}

pub rem_under : (f : Format) (s t : Bool) (m n : ℕ) (e d : ℤ) → T (fits f (fin s m e)) → 0 < n → m * up e * down d < n * up d * down e → rem f (fin s m e) (fin t n d) ≡ fin s m e
unfolding rem
rem_under f s t m n e d h p l =
    rw (ne_eqb n 0 (λ z. omega arith), mod-eq_of_lt l)
    (round_same f s (m * up e * down d) (down e * down d) (m * up e) (down e) (mul-pos (down_pos e) (down_pos d)) (down_pos e) (mul_assoc (m * up e) (down d) (down e) ∙ ap (λ (x : ℕ). m * up e * x) (mul_comm (down d) (down e)))
    ∙ round_own f s m e h)

both_true : (a b : Bool) → (a && b) ≡ true → a ≡ true
both_true true b h = refl
both_true false b h = h

-- no number below 0 equals 0
below_zero : (m : ℕ) (e : ℤ) (b : Bool) → (eqb (0 * down e) (suc m * up e * 1) && b) ≡ true → ⊥
below_zero m e b h =
    let q : 0 * down e ≡ suc m * up e * 1 = eqb-true _ _ (both_true _ b h) in
    let p = mul-pos (zero-lt-suc m) (up_pos e) in
    omega (arith, zero-mul (down e), mul-one (suc m * up e))

pub rem_tau : (t : Float) → T (fits binary64 t) → le zero64 t ≡ true → lt t tau ≡ true → rem binary64 t tau ≡ t
unfolding of_bits lt le eq
rem_tau nan h l k = absurd (false≢true k)
rem_tau (inf false) h l k = absurd (false≢true k)
rem_tau (inf true) h l k = absurd (false≢true l)
rem_tau (fin false m e) h l k = rem_under binary64 false false m 884279719003555 e (negsuc 46) h (omega arith) (ltb-true _ _ k)
rem_tau (fin true zero e) h l k = rem_under binary64 true false zero 884279719003555 e (negsuc 46) h (omega arith) (let p = down_pos e in omega (arith, zero-mul (up e)))
rem_tau (fin true (suc m) e) h l k = absurd (below_zero m e _ l)
