-- Each operation on doubles keeps near the operation on fractions, with the bounds of specs/Near.antt: rounding moves what is rounded by at most half a unit of the last place that its
-- size allows. Assumes nothing.
use mathlib.Core.Path.{◌≡◌, refl, sym, ap, ◌∙◌, subst}
use Prim.Native.Nat.{ℕ, suc, ◌+◌, ◌-◌, ◌*◌, ◌/◌, ◌^◌, ◌≤◌, ◌<◌}
use native.Mathlib.Nat.{le_trans, le_of_eq, lt_of_lt_of_le, lt_of_le_of_lt, mul-le-mul_right, mul-lt-mul_of_pos_right, le_of_mul-le-mul_right, mul-pos, lt-div-mul-add}
use native.Mathlib.Omega.{arith}
use mathlib.Core.Bool.{Bool, true, false, not, ◌&&◌, cond}
use lib.Dec.{T, leb, ltb, leb→le, ltb→lt, nltb→le, le→leb}
use lib.Pow.{pow-add, pow_pos, pow_mono}
use lib.IntN.{ℤ, pos, neg_ℤ}
use lib.Ieee.{Float, nan, inf, fin, Format, binary64, prec, emax, low, up, down, unlike, size, round, neg, sum, add, sub, mul}
use lib.Ieee.Digits.{size-lt, size-le}
use lib.Ieee.Fits.{down_pos, and_l, and_r}
use lib.Ieee.Exact.{HasValue}
use lib.Ieee.Scale.{finite}
use Rattle.numbers.proofs.Round.{round_moves}
use Rattle.numbers.specs.Close.{Signed, Close, Mag}
use Rattle.numbers.proofs.CloseLaws.{add_s, mul_s, ring, close_trans, close_add, close_mul, close_neg, close_self, close_same, close_sym, mag_add, mag_mul, under_more}
use Rattle.numbers.specs.Frac.{Frac, frac_of, add_q, mul_q, neg_q, sub_q}
use Rattle.numbers.specs.Parts.{plus_part, minus_part}
use Rattle.numbers.specs.Near.{Bound, Near, S, signed, value_of, parts_of, round_bound, add_bound, mul_bound, exactly, up_to}
use Rattle.numbers.proofs.PartLaws.{plus_part_neg, minus_part_neg, plus_part_mul, minus_part_mul, add_parts}

-- ---- what `round_moves` says of the double's own fraction a / o
own : (a o g r c A S I : ℕ) → 0 < A → a * (A * S) ≡ g * o → g * c ≤ r * (A * S) + c * (A * I) → r * (A * S) ≤ g * c + c * (A * I)
    → (a * c * S ≤ r * o * S + I * (o * c)) × (r * o * S ≤ a * c * S + I * (o * c))
own a o g r c A S I p_a e h k = (
  le_of_mul-le-mul_right (simp ring (omega (arith, simp ring at (mul-le-mul_right o h), simp ring at (ap (λ (w : ℕ). w * c) e)))) p_a,
  le_of_mul-le-mul_right (simp ring (omega (arith, simp ring at (mul-le-mul_right o k), simp ring at (ap (λ (w : ℕ). w * c) e)))) p_a,
)

of_value : (z : Float) (s : Bool) (g r c A S I : ℕ) → 0 < A → HasValue z s g (A * S) → g * c ≤ r * (A * S) + c * (A * I) → r * (A * S) ≤ g * c + c * (A * I)
    → T (finite z) × Close S (value_of z) (signed s r c) I
of_value nan s g r c A S I p_a v h k = absurd v
of_value (inf t) s g r c A S I p_a v h k = absurd v
of_value (fin t m e) s g r c A S I p_a v h k = (tt, subst (λ (w : Bool). Close S (signed w (m * up e) (down e)) (signed s r c) I) (sym v.0) (go s (own (m * up e) (down e) g r c A S I p_a v.1 h k)))
  where
    go : (s : Bool) → (m * up e * c * S ≤ r * down e * S + I * (down e * c)) × (r * down e * S ≤ m * up e * c * S + I * (down e * c)) → Close S (signed s (m * up e) (down e)) (signed s r c) I
    go false h = (omega (arith, h.0), omega (arith, h.1))
    go true h = (omega (arith, h.1), omega (arith, h.0))

round_close : (f : Format) (w t i : ℕ) (s : Bool) (r c : ℕ) → low f ≡ w + t → 0 < c → r * 2 ^ t < 2 ^ suc (prec f + i) * c → suc (suc (prec f + (w + i))) ≤ low f + suc (emax f)
    → T (finite (round f s r c)) × Close (2 ^ t) (value_of (round f s r c)) (signed s r c) (2 ^ i)
round_close f w t i s r c L C below fine =
    let l : 2 ^ low f ≡ 2 ^ w * 2 ^ t = ap (λ (x : ℕ). 2 ^ x) L ∙ pow-add 2 w t in
    let b : 2 ^ suc (prec f + (w + i)) ≡ 2 ^ suc (prec f + i) * 2 ^ w = ap (λ (x : ℕ). 2 ^ x) (omega arith) ∙ pow-add 2 (suc (prec f + i)) w in
    let R = round_moves f s r c (w + i) C
    (subst (λ (x : ℕ). r * x < 2 ^ suc (prec f + (w + i)) * c) (sym l) (subst (λ (x : ℕ). r * (2 ^ w * 2 ^ t) < x * c) (sym b) (scale r (2 ^ w) (2 ^ t) (2 ^ suc (prec f + i)) c (pow_pos w) below))) fine in
    let j : 2 ^ (w + i) ≡ 2 ^ w * 2 ^ i = pow-add 2 w i in
    of_value (round f s r c) s R.0 r c (2 ^ w) (2 ^ t) (2 ^ i) (pow_pos w) (subst (λ (x : ℕ). HasValue (round f s r c) s R.0 x) l R.1)
    (subst (λ (x : ℕ). R.0 * c ≤ r * x + c * (2 ^ w * 2 ^ i)) l (subst (λ (x : ℕ). R.0 * c ≤ r * 2 ^ low f + c * x) j R.2))
    (subst (λ (x : ℕ). r * x ≤ R.0 * c + c * (2 ^ w * 2 ^ i)) l (subst (λ (x : ℕ). r * 2 ^ low f ≤ R.0 * c + c * x) j R.3))
  where
    scale : (r A S B c : ℕ) → 0 < A → r * S < B * c → r * (A * S) < B * A * c
    scale r A S B c p_a h = simp ring (simp ring at (mul-lt-mul_of_pos_right h p_a))

pub S_pos : 0 < S
unfolding S
S_pos = pow_pos 80

-- ---- the size of what is rounded
size_of : (S : ℕ) (s : Bool) (r c : ℕ) (Z : Signed) (m e : ℕ) → 0 < Z.d → Close S (signed s r c) Z e → Mag S Z m → r * S ≤ (m + e) * c
size_of S s r c Z m e p_z h l = go s Z.p Z.n Z.d p_z h l
  where
    go : (s : Bool) (P N d : ℕ) → 0 < d → Close S (signed s r c) (record { p = P; n = N; d = d }) e → (P + N) * S ≤ m * d → r * S ≤ (m + e) * c
    go false P N d D h l = le_of_mul-le-mul_right (simp ring (omega (arith, simp ring at h.0, simp ring at (mul-le-mul_right c l)))) D
    go true P N d D h l = le_of_mul-le-mul_right (simp ring (omega (arith, simp ring at h.1, simp ring at (mul-le-mul_right c l)))) D

fits_in : (z : ℕ) → z ≤ suc (53 + (z - 54))
fits_in z = omega arith

near_round : (s : Bool) (r c : ℕ) (Z : Frac) (ok : Bool) (m e : ℕ) → 0 < c → 0 < Z.den → Mag S (parts_of Z) m → Close S (signed s r c) (parts_of Z) e → T (round_bound ok m e).ok
    → Near (round binary64 s r c) Z (round_bound ok m e)
unfolding round_bound S
near_round s r c Z ok m e C D M h t =
    let i = size (m + e) - 54 in
    let R = round_close binary64 994 80 i s r c refl C
    (lt_of_le_of_lt (size_of S s r c (parts_of Z) m e D h M) (mul-lt-mul_of_pos_right (lt_of_lt_of_le (size-lt (m + e)) (pow_mono (fits_in (size (m + e))))) C))
    (room i (leb→le i 1000 (and_r ok (leb i 1000) t))) in
    record {
      finite_number = R.0;
      den_pos = D;
      most = M;
      close = subst (λ (x : ℕ). Close S (value_of (round binary64 s r c)) (parts_of Z) x) (swap (2 ^ i) e) (close_trans S (value_of (round binary64 s r c)) (signed s r c) (parts_of Z) (2 ^ i) e (d_pos s) R.1 h);
    }
  where
    room : (i : ℕ) → i ≤ 1000 → suc (suc (53 + (994 + i))) ≤ 1074 + suc 1023
    room i h = omega arith

    swap : (a b : ℕ) → a + b ≡ b + a
    swap a b = omega arith

    d_pos : (s : Bool) → 0 < (signed s r c).d
    d_pos false = C
    d_pos true = C

-- ---- the product
pub signed_path : {p p' n n' : ℕ} (d : ℕ) → p ≡ p' → n ≡ n' → ◌≡◌ {A = Signed} (record { p = p; n = n; d = d }) (record { p = p'; n = n'; d = d })
signed_path d P N = λ i. record { p = P i; n = N i; d = d }

mul_signed : (s t : Bool) (a c b c' : ℕ) → mul_s (signed s a c) (signed t b c') ≡ signed (unlike s t) (a * b) (c * c')
mul_signed false false a c b c' = signed_path (c * c') (omega arith) (omega arith)
mul_signed false true a c b c' = signed_path (c * c') (omega arith) (omega arith)
mul_signed true false a c b c' = signed_path (c * c') (omega arith) (omega arith)
mul_signed true true a c b c' = signed_path (c * c') (omega arith) (omega arith)

mul_parts : (X Y : Frac) → mul_s (parts_of X) (parts_of Y) ≡ parts_of (mul_q X Y)
unfolding mul_q
mul_parts X Y = signed_path (X.den * Y.den) (sym (plus_part_mul X.num Y.num)) (sym (minus_part_mul X.num Y.num))

up_div : (a : ℕ) → a ≤ (a / S + 1) * S
up_div a = let h = lt-div-mul-add {a = a} {b = S} S_pos in omega arith

pub near_mul : (x y : Float) (X Y : Frac) (b c : Bound) → (T b.ok → Near x X b) → (T c.ok → Near y Y c) → T (mul_bound b c).ok → Near (mul binary64 x y) (mul_q X Y) (mul_bound b c)
unfolding mul mul_bound mul_q
near_mul x y X Y b c h k t =
    let ok = and_l (b.ok && c.ok) _ t in
    go x y (h (and_l b.ok c.ok ok)) (k (and_r b.ok c.ok ok))
  where
    go : (x y : Float) → Near x X b → Near y Y c → Near (mul binary64 x y) (mul_q X Y) (mul_bound b c)
    go nan y h k = absurd h.finite_number
    go (inf s) y h k = absurd h.finite_number
    go (fin s m e) nan h k = absurd k.finite_number
    go (fin s m e) (inf u) h k = absurd k.finite_number
    go (fin s m e) (fin u n d) h k =
        let M = b.most * c.most / S + 1 in
        let E = (b.off * c.most + c.off * b.most + b.off * c.off) / S + 1 in
        let x' = signed s (m * up e) (down e) in
        let y' = signed u (n * up d) (down d) in
        near_round (unlike s u) (m * up e * (n * up d)) (down e * down d) (mul_q X Y) (b.ok && c.ok) M E (mul-pos (down_pos e) (down_pos d)) (mul-pos h.den_pos k.den_pos)
        (subst (λ (z : Signed). Mag S z M) (mul_parts X Y) (mag_mul S S_pos (parts_of X) (parts_of Y) b.most c.most M h.most k.most (up_div (b.most * c.most))))
        (subst (λ (z : Signed). Close S z (parts_of (mul_q X Y)) E) (mul_signed s u (m * up e) (down e) (n * up d) (down d))
        (subst (λ (z : Signed). Close S (mul_s x' y') z E) (mul_parts X Y)
        (close_mul S S_pos x' (parts_of X) y' (parts_of Y) b.off c.off b.most c.most E h.close k.close h.most k.most (up_div (b.off * c.most + c.off * b.most + b.off * c.off)))))
        t

-- ---- the sum
left_same : (S : ℕ) (a Z : Signed) (p n e : ℕ) → a.p + n ≡ a.n + p → Close S a Z e → Close S (record { p = p; n = n; d = a.d }) Z e
left_same S a Z p n e i h = close_sym S Z (record { p = p; n = n; d = a.d }) e (close_same S Z a p n e i (close_sym S a Z e h))

-- the sum of two doubles is a fraction rounded, of the same value as the fractions' sum
abbrev Rounds : ℕ → Format → Signed → Signed → ℕ → Float → Type 0
Rounds S f v Z e z = (s : Bool) × (r : ℕ) × (z ≡ round f s r v.d) × Close S (signed s r v.d) Z e

sum_rounds : (S : ℕ) (f : Format) (s : Bool) (a c : ℕ) (t : Bool) (b c' : ℕ) (Z : Signed) (e : ℕ) → Close S (add_s (signed s a c) (signed t b c')) Z e
    → Rounds S f (record { p = 0; n = 0; d = c * c' }) Z e (sum f s (a * c') t (b * c) (c * c'))
unfolding sum
sum_rounds S f false a c false b c' Z e h = (false, a * c' + b * c, refl, left_same S _ Z (a * c' + b * c) 0 e (omega arith) h)
sum_rounds S f true a c true b c' Z e h = (true, a * c' + b * c, refl, left_same S _ Z 0 (a * c' + b * c) e (omega arith) h)
sum_rounds S f false a c true b c' Z e h = go (ltb (a * c') (b * c)) (ltb→lt (a * c') (b * c)) (nltb→le (a * c') (b * c))
  where
    go : (w : Bool) → (T w → a * c' < b * c) → (T (not w) → b * c ≤ a * c')
        → Rounds S f (record { p = 0; n = 0; d = c * c' }) Z e (cond w (round f true (b * c - a * c') (c * c')) (round f false (a * c' - b * c) (c * c')))
    go true l g = let l' = l tt in (true, b * c - a * c', refl, left_same S _ Z 0 (b * c - a * c') e (omega arith) h)
    go false l g = let g' = g tt in (false, a * c' - b * c, refl, left_same S _ Z (a * c' - b * c) 0 e (omega arith) h)
sum_rounds S f true a c false b c' Z e h =
    go (ltb (a * c') (b * c)) (ltb (b * c) (a * c')) (ltb→lt (a * c') (b * c)) (nltb→le (a * c') (b * c)) (nltb→le (b * c) (a * c'))
  where
    go : (w v : Bool) → (T w → a * c' < b * c) → (T (not w) → b * c ≤ a * c') → (T (not v) → a * c' ≤ b * c)
        → Rounds S f (record { p = 0; n = 0; d = c * c' }) Z e (cond w (round f false (b * c - a * c') (c * c')) (round f v (a * c' - b * c) (c * c')))
    go true v l g k = let l' = l tt in (false, b * c - a * c', refl, left_same S _ Z (b * c - a * c') 0 e (omega arith) h)
    go false true l g k = let g' = g tt in (true, a * c' - b * c, refl, left_same S _ Z 0 (a * c' - b * c) e (omega arith) h)
    go false false l g k = let g' = g tt in let k' = k tt in (false, a * c' - b * c, refl, left_same S _ Z (a * c' - b * c) 0 e (omega arith) h)

pub near_add : (x y : Float) (X Y : Frac) (b c : Bound) → (T b.ok → Near x X b) → (T c.ok → Near y Y c) → T (add_bound b c).ok → Near (add binary64 x y) (add_q X Y) (add_bound b c)
unfolding add add_bound add_q
near_add x y X Y b c h k t =
    let ok = and_l (b.ok && c.ok) _ t in
    go x y (h (and_l b.ok c.ok ok)) (k (and_r b.ok c.ok ok))
  where
    go : (x y : Float) → Near x X b → Near y Y c → Near (add binary64 x y) (add_q X Y) (add_bound b c)
    go nan y h k = absurd h.finite_number
    go (inf s) y h k = absurd h.finite_number
    go (fin s m e) nan h k = absurd k.finite_number
    go (fin s m e) (inf u) h k = absurd k.finite_number
    go (fin s m e) (fin u n d) h k =
        let x' = signed s (m * up e) (down e) in
        let y' = signed u (n * up d) (down d) in
        let P = add_parts X.num Y.num Y.den X.den in
        let R = sum_rounds S binary64 s (m * up e) (down e) u (n * up d) (down d) (parts_of (add_q X Y)) (b.off + c.off)
        (close_same S (add_s x' y') (add_s (parts_of X) (parts_of Y)) (plus_part (add_q X Y).num) (minus_part (add_q X Y).num) (b.off + c.off) P.0 (close_add S x' (parts_of X) y' (parts_of Y) b.off c.off h.close k.close)) in
        subst (λ (z : Float). Near z (add_q X Y) (add_bound b c)) (sym R.2)
        (near_round R.0 R.1 (down e * down d) (add_q X Y) (b.ok && c.ok) (b.most + c.most) (b.off + c.off) (mul-pos (down_pos e) (down_pos d)) (mul-pos h.den_pos k.den_pos)
        (le_trans (mul-le-mul_right S P.1) (mag_add S (parts_of X) (parts_of Y) b.most c.most h.most k.most)) R.3 t)

-- ---- the opposite, the difference
pub near_neg : (x : Float) (X : Frac) (b : Bound) → Near x X b → Near (neg x) (neg_q X) b
unfolding neg neg_q
near_neg nan X b h = absurd h.finite_number
near_neg (inf s) X b h = absurd h.finite_number
near_neg (fin s m e) X b h =
    record {
      finite_number = tt;
      den_pos = h.den_pos;
      most = le_trans (le_of_eq (ap (λ (w : ℕ). w * S) (swapped X.num))) h.most;
      close = subst (λ (z : Signed). Close S (signed (not s) (m * up e) (down e)) z b.off) (signed_path X.den (sym (plus_part_neg X.num)) (sym (minus_part_neg X.num))) (turned s h.close);
    }
  where
    swapped : (z : ℤ) → plus_part (neg_ℤ z) + minus_part (neg_ℤ z) ≡ plus_part z + minus_part z
    swapped z = omega (arith, plus_part_neg z, minus_part_neg z)

    turned : (s : Bool) → Close S (signed s (m * up e) (down e)) (parts_of X) b.off → Close S (signed (not s) (m * up e) (down e)) (record { p = minus_part X.num; n = plus_part X.num; d = X.den }) b.off
    turned false h = close_neg S (signed false (m * up e) (down e)) (parts_of X) b.off h
    turned true h = close_neg S (signed true (m * up e) (down e)) (parts_of X) b.off h

pub near_sub : (x y : Float) (X Y : Frac) (b c : Bound) → (T b.ok → Near x X b) → (T c.ok → Near y Y c) → T (add_bound b c).ok → Near (sub binary64 x y) (sub_q X Y) (add_bound b c)
unfolding sub sub_q
near_sub x y X Y b c h k t = near_add x (neg y) X (neg_q Y) b c h (λ u. near_neg y Y c (k u)) t

-- ---- a double is the fraction that it is
pub near_self : (x : Float) (m : ℕ) → T (finite x) → Mag S (value_of x) m → Near x (frac_of x) (exactly m)
unfolding frac_of
near_self nan m f h = absurd f
near_self (inf s) m f h = absurd f
near_self (fin false n e) m f h = record { finite_number = tt; den_pos = down_pos e; most = h; close = close_self S (value_of (fin false n e)) }
near_self (fin true n e) m f h =
    let w = signed_path (down e) (sym (plus_part_neg (pos (n * up e)))) (sym (minus_part_neg (pos (n * up e)))) in
    record {
      finite_number = tt;
      den_pos = down_pos e;
      most = subst (λ (z : Signed). Mag S z m) w h;
      close = subst (λ (z : Signed). Close S (value_of (fin true n e)) z 0) w (close_self S (value_of (fin true n e)));
    }

-- ---- looser bounds
pub near_weaken : (x : Float) (X : Frac) (b : Bound) (m e : ℕ) → b.most ≤ m → b.off ≤ e → Near x X b → Near x X (up_to m e)
near_weaken x X b m e l k h =
    record {
      finite_number = h.finite_number;
      den_pos = h.den_pos;
      most = le_trans h.most (mul-le-mul_right X.den l);
      close = (under_more S (value_of x) (parts_of X) b.off e k h.close.0, under_more S (parts_of X) (value_of x) b.off e k h.close.1);
    }

-- below 2 ^ (54 + i) units rounding moves by at most 2 ^ i of them
pub rounds_by : (m e i : ℕ) → i ≤ 1000 → m + e < 2 ^ (54 + i) → T (round_bound true m e).ok × ((round_bound true m e).off ≤ e + 2 ^ i)
unfolding round_bound
rounds_by m e i I h =
    let l : size (m + e) - 54 ≤ i = less (size (m + e)) i (size-le (m + e) (54 + i) h) in
    let p : 2 ^ (size (m + e) - 54) ≤ 2 ^ i = pow_mono l in
    (le→leb (size (m + e) - 54) 1000 (le_trans l I), omega arith)
  where
    less : (z i : ℕ) → z ≤ 54 + i → z - 54 ≤ i
    less z i h = omega arith
