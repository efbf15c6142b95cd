-- The numbers that a test names, in order, in the first places of a list: one more joins or is left out, each is below the end, and a sum over them goes on by one. Assumes nothing.
use mathlib.Core.Path.{◌≡◌, refl, sym, ap, ◌∙◌}
use mathlib.Core.Bool.{Bool, true, false, not, cond}
use mathlib.Core.List.{List, [], ◌∷◌, ◌++◌}
use Prim.Native.Nat.{ℕ, zero, suc, ◌+◌, ◌≤◌, ◌<◌}
use native.Mathlib.Omega.{arith}
use native.Mathlib.Nat.{not-suc-le-zero, add-zero}
use native.Mathlib.Numerals.{add-one}
use native.Mathlib.Decide.{dec_lt}
use lib.ListN.{length, get_or, set, take, length-append, get_or-append}
use lib.Seq.{take-set-le, take-suc-set, get_or-take, length-take-le, get_or-append_seam}
use lib.Ieee.{Float, binary64, add}
use Rattle.numbers.specs.Double.{zero64}
use Rattle.numbers.specs.Ops.{doubles}
use Rattle.numbers.specs.Zeros.{listed, sum_over}
use Rattle.numbers.proofs.Loops.{fold_step}

pub listed_same : (keep also : ℕ → Bool) (n : ℕ) → ((c : ℕ) → c < n → keep c ≡ also c) → listed keep n ≡ listed also n
unfolding listed
listed_same keep also zero h = refl
listed_same keep also (suc n) h = let r = listed_same keep also n (λ c l. h c (omega arith)) in λ j. cond (h n (omega arith) j) (r j ++ (n ∷ [])) (r j)

-- one number more, which is written behind those listed, and counts where the test names it
pub listed_step : (keep : ℕ → Bool) (l : List ℕ) (m c : ℕ) (left : Bool) → keep c ≡ not left → m < length l → take m l ≡ listed keep c
    → take (m + cond left 0 1) (set l m c) ≡ listed keep (c + 1)
unfolding listed
listed_step keep l m c true e h q =
    ap (λ (w : ℕ). take w (set l m c)) (add-zero m) ∙ take-set-le m l m c (omega arith) ∙ q
    ∙ sym (ap (λ (w : ℕ). listed keep w) (add-one c) ∙ ap (λ (b : Bool). cond b (listed keep c ++ (c ∷ [])) (listed keep c)) e)
listed_step keep l m c false e h q =
    ap (λ (w : ℕ). take w (set l m c)) (add-one m) ∙ take-suc-set l m c h ∙ ap (λ (w : List ℕ). w ++ (c ∷ [])) q
    ∙ sym (ap (λ (w : ℕ). listed keep w) (add-one c) ∙ ap (λ (b : Bool). cond b (listed keep c ++ (c ∷ [])) (listed keep c)) e)

listed_below : (keep : ℕ → Bool) (n j : ℕ) → j < length (listed keep n) → get_or (listed keep n) j 0 < n
unfolding listed
listed_below keep zero j h = absurd (not-suc-le-zero h)
listed_below keep (suc n) j h = one (λ l. listed_below keep n j l) (keep n) h
  where
    one : (j < length (listed keep n) → get_or (listed keep n) j 0 < n) → (b : Bool) → j < length (cond b (listed keep n ++ (n ∷ [])) (listed keep n))
        → get_or (cond b (listed keep n ++ (n ∷ [])) (listed keep n)) j 0 < suc n
    one rest true h =
        let l : length (listed keep n ++ (n ∷ [])) ≡ length (listed keep n) + 1 = length-append (listed keep n) (n ∷ []) in
        elim (dec_lt j (length (listed keep n))) [
          | yes k ↦ (let e = get_or-append (listed keep n) (n ∷ []) 0 j k in let r = rest k in omega arith)
          | no k ↦ (let q : j ≡ length (listed keep n) = omega arith in let e = ap (λ (x : ℕ). get_or (listed keep n ++ (n ∷ [])) x 0) q ∙ get_or-append_seam (listed keep n) n [] 0 in omega arith)
        ]
    one rest false h = let r = rest h in omega arith

-- each number of a list's first m places, which are those listed, is below the end
pub below_end : (keep : ℕ → Bool) (n : ℕ) (l : List ℕ) (m j : ℕ) → m ≤ length l → take m l ≡ listed keep n → j < m → get_or l j 0 < n
below_end keep n l m j f e h =
    let a : get_or l j 0 ≡ get_or (listed keep n) j 0 = sym (get_or-take m l j 0 h) ∙ ap (λ (w : List ℕ). get_or w j 0) e in
    let b = length-take-le m l f in
    let d = ap length e in
    let z = listed_below keep n j (omega arith) in
    omega arith

-- a sum over one number more
pub over_step : (f : ℕ → Float) (l : List ℕ) (j : ℕ) → j < length l → sum_over doubles zero64 f (take (j + 1) l) ≡ add binary64 (sum_over doubles zero64 f (take j l)) (f (get_or l j 0))
unfolding sum_over
over_step f l j h = ap (λ (x : ℕ). sum_over doubles zero64 f (take x l)) (add-one j) ∙ fold_step (λ t c. add binary64 t (f c)) zero64 l j 0 h
