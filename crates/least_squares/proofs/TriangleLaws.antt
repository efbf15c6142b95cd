-- Places of the lower triangle, and the whole matrix that is read by them. Assumes nothing.
use mathlib.Core.Path.{◌≡◌, refl, sym, ap, subst, ◌∙◌}
use mathlib.Core.List.{List}
use Prim.Native.Nat.{ℕ, zero, suc, ◌+◌, ◌-◌, ◌*◌, ◌≤◌, ◌<◌, min, max}
use native.Mathlib.Omega.{arith}
use native.Mathlib.Decide.{dec_lt}
use native.Mathlib.Nat.{mul-le-mul}
use native.Mathlib.Numerals.{add-one}
use lib.ListN.{length, get_or}
use lib.Seq.{ext_get_or}
use lib.Ieee.{Float, nan}
use Rattle.least_squares.specs.Lm.{table_of}
use Rattle.least_squares.specs.Memory.{part}
use Rattle.least_squares.specs.Triangle.{triangle, entry_of, spread}
use Rattle.least_squares.proofs.MemoryLaws.{part_at}
use Rattle.least_squares.proofs.TableLaws.{length_table_of, get_d_table_of, table_ext}

-- ---- places

-- row i has i + 1 entries
pub triangle_next : (i : ℕ) → triangle (i + 1) ≡ triangle i + (i + 1)
unfolding triangle
triangle_next i = omega arith

-- the product is even, so that the half has no rest
pub triangle_twice : (i : ℕ) → 2 * triangle i ≡ i * (i + 1)
unfolding triangle
triangle_twice zero = refl
triangle_twice (suc i) = let e = triangle_twice i in omega arith

-- more rows take no fewer places
pub triangle_more : (i j : ℕ) → i ≤ j → triangle i ≤ triangle j
unfolding triangle
triangle_more i j h =
    let l : i + 1 ≤ j + 1 = omega arith in
    let m = mul-le-mul h l in
    omega arith

-- with as many rows as a sheet can have
pub triangle_few : (i : ℕ) → i ≤ 896 → triangle i ≤ 401856
unfolding triangle
triangle_few i h = triangle_more i 896 h

-- a row ends where the triangle does, at the latest; so an entry up to the diagonal has its place
pub row_in_triangle : (i rows : ℕ) → i < rows → triangle i + (i + 1) ≤ triangle rows
row_in_triangle i rows h =
    let e = triangle_next i in
    let m : triangle (i + 1) ≤ triangle rows = triangle_more (i + 1) rows (omega arith) in
    omega arith

pub in_triangle : (i k rows : ℕ) → k ≤ i → i < rows → triangle i + k < triangle rows
in_triangle i k rows h l = omega (arith, row_in_triangle i rows l)

-- every place is that of an entry: so it is enough to look at entries
pub each_place : (P : ℕ → Type 0) (rows : ℕ) → ((i k : ℕ) → i < rows → k ≤ i → P (triangle i + k)) → (x : ℕ) → x < triangle rows → P x
each_place P zero h x l = let e = triangle_twice 0 in absurd (omega arith)
each_place P (suc rows) h x l =
    elim (dec_lt x (triangle rows)) [
      | yes m ↦ each_place P rows (λ i k a b. h i k (omega arith) b) x m
      | no m ↦
          let n = triangle_next rows in
          let e : triangle rows + (x - triangle rows) ≡ x = omega arith in
          subst P e (h rows (x - triangle rows) (omega arith) (omega (arith, rw (← add-one rows) at l)))
    ]

-- ---- the whole matrix

pub spread_at : (l : List Float) (rows i k : ℕ) → i < rows → k < rows → get_or (spread l rows) (i * rows + k) nan ≡ entry_of l i k
unfolding spread
spread_at l rows i k h m = get_d_table_of (entry_of l) rows rows i k nan h m

-- an entry up to the diagonal, in the triangle and in memory that has the triangle at a
entry_there : (l : List Float) (i k : ℕ) → k ≤ i → entry_of l i k ≡ get_or l (triangle i + k) nan
entry_there l i k h =
    let up : max i k ≡ i = omega arith in
    let down : min i k ≡ k = omega arith in
    λ j. get_or l (triangle (up j) + down j) nan

pub entry_left : (s : List Float) (a rows i k : ℕ) → k ≤ i → i < rows → entry_of (part s a (triangle rows)) i k ≡ get_or s (a + triangle i + k) nan
entry_left s a rows i k h l =
    let e : a + (triangle i + k) ≡ a + triangle i + k = omega arith in
    entry_there (part s a (triangle rows)) i k h ∙ part_at s a (triangle rows) (triangle i + k) nan (in_triangle i k rows h l) ∙ ap (λ (w : ℕ). get_or s w nan) e

-- the diagonal entry of the whole matrix
pub diagonal_at : (s : List Float) (a rows i : ℕ) → i < rows → get_or (spread (part s a (triangle rows)) rows) (i * rows + i) nan ≡ get_or s (a + triangle i + i) nan
diagonal_at s a rows i h = spread_at (part s a (triangle rows)) rows i i h h ∙ entry_left s a rows i i (omega arith) h

-- an entry above the diagonal is the one below it
pub entry_turned : (l : List Float) (i k : ℕ) → entry_of l i k ≡ entry_of l k i
entry_turned l i k =
    let up : max i k ≡ max k i = omega arith in
    let down : min i k ≡ min k i = omega arith in
    λ j. get_or l (triangle (up j) + down j) nan

-- Each entry read is the matrix's: where a matrix is the same on both sides of its diagonal, and the triangle has what stands up to it, the whole matrix is read.
pub spread_is : (f : ℕ → ℕ → Float) (s : List Float) (a rows : ℕ) → ((i k : ℕ) → f i k ≡ f k i)
    → ((i : ℕ) → i < rows → (k : ℕ) → k ≤ i → get_or s (a + triangle i + k) nan ≡ f i k) → spread (part s a (triangle rows)) rows ≡ table_of f rows rows
unfolding spread
spread_is f s a rows same e =
    table_ext f rows rows (spread l rows) (length_table_of (entry_of l) rows rows) (λ i k h m. spread_at l rows i k h m ∙ read i k h m)
  where
    l : List Float
    l = part s a (triangle rows)

    read : (i k : ℕ) → i < rows → k < rows → entry_of l i k ≡ f i k
    read i k h m =
        elim (dec_lt i k) [
          | yes q ↦ entry_turned l i k ∙ entry_left s a rows k i (omega arith) m ∙ e k m i (omega arith) ∙ same k i
          | no q ↦ entry_left s a rows i k (omega arith) h ∙ e i h k (omega arith)
        ]

-- and the whole matrix fixes each double of its triangle
pub spread_fixes : (l t : List Float) (rows : ℕ) → length l ≡ triangle rows → length t ≡ triangle rows → spread l rows ≡ spread t rows → l ≡ t
spread_fixes l t rows a b e =
    ext_get_or nan l t (a ∙ sym b) (λ x h. each_place (λ y. get_or l y nan ≡ get_or t y nan) rows same x (rw (← a) h))
  where
    at : (u : List Float) (i k : ℕ) → i < rows → k ≤ i → get_or (spread u rows) (i * rows + k) nan ≡ get_or u (triangle i + k) nan
    at u i k h m = spread_at u rows i k h (omega arith) ∙ entry_there u i k m

    same : (i k : ℕ) → i < rows → k ≤ i → get_or l (triangle i + k) nan ≡ get_or t (triangle i + k) nan
    same i k h m = sym (at l i k h m) ∙ ap (λ (w : List Float). get_or w (i * rows + k) nan) e ∙ at t i k h m
