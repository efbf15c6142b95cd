-- How many bytes the pieces of a report take, and digits put one before another. Assumes nothing.
use mathlib.Core.Path.{◌≡◌, refl, sym, ap, subst, ◌∙◌}
use mathlib.Core.Bool.{Bool, true, false}
use mathlib.Core.List.{List, [], ◌∷◌, ◌++◌, append-nil, append_assoc}
use Prim.Native.Nat.{ℕ, zero, suc, ◌+◌, ◌-◌, ◌*◌, ◌/◌, ◌%◌, ◌^◌, ◌≤◌, ◌<◌}
use native.Mathlib.Omega.{arith}
use native.Mathlib.Nat.{div-lt_self, div-lt_iff_lt-mul, pow-suc}
use lib.Dec.{ltb}
use borrow.Author.Tests.{ltb-false, lt-ltb, le-ltb}
use lib.ListN.{length, get_or, set, length-append}
use lib.Ieee.{Float, nan, binary64, to_bits}
use Rattle.writing.specs.Bytes.{Put}
use Rattle.writing.proofs.PutLaws.{put_nothing, put_before, joined_at_most}
use Rattle.report.specs.Report.{digits, places_in, decimal, bits_text, count_digit, number_line, relation_line, body_line, relation_lines, body_lines, glyph}

-- ---- digits

pub digits_length : (b k n : ℕ) → length (digits b k n) ≡ k
unfolding digits
digits_length b zero n = refl
digits_length b (suc k) n =
    let e = digits_length b k (n / b) in
    length-append (digits b k (n / b)) (glyph (n % b) ∷ []) ∙ (omega arith)

-- the digits so far stand behind those of `rest` that are to come
pub record Spelled (b k n : ℕ) (s t : List ℕ) (o i rest : ℕ) : Type 0 where
  pub last : List ℕ
  pub whole : digits b i rest ++ last ≡ digits b k n
  pub put : Put s t (o + i) (o + k) last

pub spelled_start : (b k n : ℕ) (s : List ℕ) (o : ℕ) → o + k ≤ length s → Spelled b k n s s o k n
spelled_start b k n s o h = record { last = []; whole = append-nil (digits b k n); put = put_nothing s (o + k) h }

pub spelled_step : (b k n : ℕ) (s t : List ℕ) (o i rest : ℕ) (g : ℕ) → 0 < i → g ≡ glyph (rest % b) → Spelled b k n s t o i rest
    → Spelled b k n s (set t (o + (i - 1)) g) o (i - 1) (rest / b)
unfolding digits
spelled_step b k n s t o zero rest g h e p = absurd (omega arith)
spelled_step b k n s t o (suc i) rest g h e p =
    let j : suc i - 1 ≡ i = omega arith in
    subst (λ (w : ℕ). Spelled b k n s (set t (o + w) g) o w (rest / b)) (sym j)
    (record {
      last = g ∷ p.last;
      whole =
          ap (λ (w : ℕ). digits b i (rest / b) ++ (w ∷ p.last)) e ∙ sym (append_assoc (digits b i (rest / b)) (glyph (rest % b) ∷ []) p.last) ∙ p.whole;
      put = put_before s t (o + i) (o + suc i) (o + k) p.last g (omega arith) p.put;
    })

pub spelled_end : (b k n : ℕ) (s t : List ℕ) (o i rest : ℕ) → i ≡ 0 → Spelled b k n s t o i rest → Put s t o (o + k) (digits b k n)
unfolding digits
spelled_end b k n s t o i rest e p =
    let w : p.last ≡ digits b k n = sym (ap (λ (v : ℕ). digits b v rest ++ p.last) e) ∙ p.whole in
    let f : o + i ≡ o = omega arith in
    subst (λ (v : ℕ). Put s t v (o + k) (digits b k n)) f (subst (λ (v : List ℕ). Put s t (o + i) (o + k) v) w p.put)

-- ---- how many digits

steps_enough : (f g n : ℕ) → n ≤ f → n ≤ g → places_in f n ≡ places_in g n
unfolding places_in
steps_enough zero zero n h k = refl
steps_enough zero (suc g) n h k = rw (lt-ltb n 10 (omega arith), places_in)
steps_enough (suc f) zero n h k = rw (lt-ltb n 10 (omega arith), places_in)
steps_enough (suc f) (suc g) n h k = go (ltb n 10) refl (λ a b. steps_enough f g (n / 10) a b)
  where
    go : (t : Bool) → ltb n 10 ≡ t → (n / 10 ≤ f → n / 10 ≤ g → places_in f (n / 10) ≡ places_in g (n / 10))
        → ◌≡◌ {A = ℕ} (elim t [ true ↦ 1 | false ↦ suc (places_in f (n / 10)) ]) (elim t [ true ↦ 1 | false ↦ suc (places_in g (n / 10)) ])
    go true e w = refl
    go false e w =
        let big : 10 ≤ n = ltb-false n 10 e in
        let less : n / 10 < n = div-lt_self (omega arith) (omega arith) in
        ap suc (w (omega arith) (omega arith))

pub places_small : (n : ℕ) → n < 10 → places_in n n ≡ 1
unfolding places_in
places_small zero h = refl
places_small (suc n) h = rw (lt-ltb (suc n) 10 h, places_in)

pub places_more : (n : ℕ) → 10 ≤ n → places_in n n ≡ suc (places_in (n / 10) (n / 10))
unfolding places_in
places_more zero h = absurd (omega arith)
places_more (suc n) h =
    let less : suc n / 10 < suc n = div-lt_self (omega arith) (omega arith) in
    rw (le-ltb (suc n) 10 h, places_in, steps_enough n (suc n / 10) (suc n / 10) (omega arith) (omega arith))

-- a turn of the loop that counts the digits: k are counted, and `rest` is what they leave
pub places_step : (n k rest : ℕ) → 10 ≤ rest → k + places_in rest rest ≡ places_in n n + 1 → k + 1 + places_in (rest / 10) (rest / 10) ≡ places_in n n + 1
places_step n k rest h e = let w = places_more rest h in omega arith

pub places_end : (n k rest : ℕ) → rest < 10 → k + places_in rest rest ≡ places_in n n + 1 → k ≡ places_in n n
places_end n k rest h e = let w = places_small rest h in omega arith

pub places_bound : (k f n : ℕ) → n < 10 ^ suc k → places_in f n ≤ suc k
unfolding places_in
places_bound k zero n h = omega arith
places_bound zero (suc f) n h = rw (lt-ltb n 10 h, places_in) (omega arith)
places_bound (suc k) (suc f) n h = go (ltb n 10) (places_bound k f (n / 10) ((div-lt_iff_lt-mul (omega arith)).1 (rw pow-suc at h)))
  where
    go : (t : Bool) → places_in f (n / 10) ≤ suc k → elim t [ true ↦ 1 | false ↦ suc (places_in f (n / 10)) ] ≤ suc (suc k)
    go true w = omega arith
    go false w = omega arith

-- a number below 100,000 has at most five digits
pub decimal_length : (n : ℕ) → n < 100000 → length (decimal n) ≤ 5
decimal_length n h = rw (digits_length 10 (places_in n n) n) (places_bound 4 n n h)

-- ---- lines

pub number_length : (word : List ℕ) (n : ℕ) → n < 100000 → length (number_line word n) ≤ length word + 6
number_length word n h =
    let a = length-append word (decimal n ++ (10 ∷ [])) in
    let b = length-append (decimal n) (10 ∷ []) in
    let d = decimal_length n h in
    omega arith

pub relation_length : (j : ℕ) (x : Float) → j < 100000 → length (relation_line j x) ≤ 32
relation_length j x h =
    let a = length-append (decimal j) ((32 ∷ []) ++ (bits_text x ++ (10 ∷ []))) in
    let b = length-append (bits_text x) (10 ∷ []) in
    let d = decimal_length j h in
    let e = digits_length 16 16 (to_bits binary64 x) in
    omega arith

pub body_length : (i : ℕ) (slides turns : Float) → i < 100000 → length (body_line i slides turns) ≤ 15
body_length i slides turns h =
    let a = length-append (decimal i) (32 ∷ count_digit slides ∷ 32 ∷ count_digit turns ∷ 10 ∷ []) in
    let d = decimal_length i h in
    omega arith

pub relations_length : (errors : List Float) (k : ℕ) → k ≤ 128 → length (relation_lines errors k) ≤ 32 * k
relations_length errors k h = joined_at_most (λ j. relation_line j (get_or errors j nan)) 32 k (λ j l. relation_length j (get_or errors j nan) (omega arith))

pub bodies_length : (freedoms : List Float) (m : ℕ) → m ≤ 64 → length (body_lines freedoms m) ≤ 15 * m
bodies_length freedoms m h =
    joined_at_most (λ i. body_line i (get_or freedoms (29 * i) nan) (get_or freedoms (29 * i + 1) nan)) 15 m
    (λ i l. body_length i (get_or freedoms (29 * i) nan) (get_or freedoms (29 * i + 1) nan) (omega arith))

-- a body's counts, by their digits
pub put_counts : (s t : List ℕ) (o r a b c d : ℕ) → a ≡ c → b ≡ d → Put s t o r (32 ∷ a ∷ 32 ∷ b ∷ 10 ∷ []) → Put s t o r (32 ∷ c ∷ 32 ∷ d ∷ 10 ∷ [])
put_counts s t o r a b c d e f p =
    subst (λ (w : ℕ). Put s t o r (32 ∷ c ∷ 32 ∷ w ∷ 10 ∷ [])) f (subst (λ (w : ℕ). Put s t o r (32 ∷ w ∷ 32 ∷ b ∷ 10 ∷ [])) e p)

-- digits of equal numbers, equally many
pub put_digits_as : (s t : List ℕ) (o r b k k' n n' : ℕ) → k ≡ k' → n ≡ n' → Put s t o r (digits b k n) → Put s t o r (digits b k' n')
put_digits_as s t o r b k k' n n' e f p = subst (λ (w : ℕ). Put s t o r (digits b k' w)) f (subst (λ (w : ℕ). Put s t o r (digits b w n)) e p)
