-- The whole matrix written from its lower triangle, row after row. Assumes nothing.
use mathlib.Core.Path.{◌≡◌, sym, ap, subst, ◌∙◌}
use mathlib.Core.List.{List}
use Prim.Native.Nat.{ℕ, ◌+◌, ◌*◌, ◌≤◌, ◌<◌}
use native.Mathlib.Omega.{arith}
use native.Mathlib.Decide.{dec_lt}
use lib.ListN.{length, get_or, set}
use lib.Seq.{get_or-set_same, get_or-set_other}
use lib.Ieee.{Float, nan}
use Rattle.least_squares.specs.Memory.{part, Kept}
use Rattle.least_squares.specs.Triangle.{triangle, entry_of, spread}
use Rattle.least_squares.specs.LmPosts.{Copied, Across}
use Rattle.least_squares.proofs.MemoryLaws.{part_at, part_length, kept_set, kept_trans, kept_wider, kept_at_below}
use Rattle.least_squares.proofs.TableLaws.{one_more, table_ext}
use Rattle.least_squares.proofs.TriangleLaws.{in_triangle, entry_left, entry_turned}
use Rattle.least_squares.proofs.LmLaws.{entry_at, row_fits}

-- one more entry right of the diagonal: what it is read from stands before the row
pub across_step : (o s t : List Float) (a b i rows k at : ℕ) → i < k → k < rows → a + triangle rows ≤ b → b + rows ≤ length o → Kept o s (b + (i + 1)) (b + rows)
    → ((j : ℕ) → i < j → j < k → get_or s (b + j) nan ≡ get_or o (a + triangle j + i) nan) → at ≡ a + triangle k + i → t ≡ set s (b + k) (get_or s at nan)
    → Kept o t (b + (i + 1)) (b + rows) × ((j : ℕ) → i < j → j < k + 1 → get_or t (b + j) nan ≡ get_or o (a + triangle j + i) nan)
across_step o s t a b i rows k at h l apart fits r e place p =
    let z = r.size in
    let q = in_triangle k i rows (omega arith) l in
    subst (λ (u : List Float). Kept o u (b + (i + 1)) (b + rows) × ((j : ℕ) → i < j → j < k + 1 → get_or u (b + j) nan ≡ get_or o (a + triangle j + i) nan)) (sym p)
    (kept_set o s (b + (i + 1)) (b + rows) (b + k) _ (omega arith) (omega arith) r, λ j m n. more (omega arith) (omega arith) j n m)
  where
    more : at < b → b + k < length s → (j : ℕ) → j < k + 1 → i < j → get_or (set s (b + k) (get_or s at nan)) (b + j) nan ≡ get_or o (a + triangle j + i) nan
    more before inside =
        one_more (λ j. i < j → get_or (set s (b + k) (get_or s at nan)) (b + j) nan ≡ get_or o (a + triangle j + i) nan) k
        (λ j n m. get_or-set_other s (b + k) (b + j) (get_or s at nan) nan (λ (z : b + j ≡ b + k). omega arith) ∙ e j m n)
        (λ m. get_or-set_same s (b + k) (get_or s at nan) nan inside ∙ kept_at_below o s (b + (i + 1)) (b + rows) at nan (omega arith) r ∙ ap (λ (x : ℕ). get_or o x nan) place)

-- the first i rows of the square at b are those of the matrix f
abbrev pub Square : List Float → ℕ → ℕ → (ℕ → ℕ → Float) → ℕ → Type 0
Square s b rows f i = (p : ℕ) → p < i → (k : ℕ) → k < rows → get_or s (b + p * rows + k) nan ≡ f p k

module _ (o s v t : List Float) (a b i rows : ℕ) (h : i < rows) (apart : a + triangle rows ≤ b) (r : Kept o s b (b + rows * rows))
    (x : Copied s v (a + triangle i) (b + i * rows) (i + 1)) (y : Across v t a (b + i * rows) i rows) where
  -- an entry of the triangle is as at entry while the square is written
  still : (p k : ℕ) → k ≤ p → p < rows → get_or s (a + triangle p + k) nan ≡ entry_of (part o a (triangle rows)) p k
  still p k l m =
      let q = in_triangle p k rows l m in
      kept_at_below o s b (b + rows * rows) (a + triangle p + k) nan (omega arith) r ∙ sym (entry_left o a rows p k l m)

  -- up to the diagonal what was copied, right of it what stands below the diagonal
  row : (k : ℕ) → k < rows → get_or t (b + i * rows + k) nan ≡ entry_of (part o a (triangle rows)) i k
  row k m =
      elim (dec_lt i k) [
        | yes l ↦
            let q = in_triangle k i rows (omega arith) m in
            y.entries k l m
            ∙ kept_at_below s v (b + i * rows) (b + i * rows + (i + 1)) (a + triangle k + i) nan (omega arith) x.kept
            ∙ still k i (omega arith) m
            ∙ entry_turned (part o a (triangle rows)) k i
        | no l ↦
            let d : k < i + 1 = omega arith in
            kept_at_below v t (b + i * rows + (i + 1)) (b + i * rows + rows) (b + i * rows + k) nan (omega arith) y.kept
            ∙ sym (part_at v (b + i * rows) (i + 1) k nan d)
            ∙ ap (λ (w : List Float). get_or w k nan) x.copy
            ∙ part_at s (a + triangle i) (i + 1) k nan d
            ∙ still i k (omega arith) h
      ]

  pub square_step : Square s b rows (entry_of (part o a (triangle rows))) i → Kept o t b (b + rows * rows) × Square t b rows (entry_of (part o a (triangle rows))) (i + 1)
  square_step e = (
    kept_trans o v t b (b + rows * rows) (kept_trans o s v b (b + rows * rows) r copied) crossed,
    one_more (λ p. (k : ℕ) → k < rows → get_or t (b + p * rows + k) nan ≡ entry_of (part o a (triangle rows)) p k) i before row,
  )
    where
      fits : b + i * rows + rows ≤ b + rows * rows
      fits = omega (arith, row_fits i rows rows h)

      copied : Kept s v b (b + rows * rows)
      copied = kept_wider s v (b + i * rows) (b + i * rows + (i + 1)) b (b + rows * rows) (omega arith) (omega (arith, fits)) x.kept

      crossed : Kept v t b (b + rows * rows)
      crossed = kept_wider v t (b + i * rows + (i + 1)) (b + i * rows + rows) b (b + rows * rows) (omega arith) fits y.kept

      before : (p : ℕ) → p < i → (k : ℕ) → k < rows → get_or t (b + p * rows + k) nan ≡ entry_of (part o a (triangle rows)) p k
      before p z k d =
          let g = row_fits p rows i z in
          kept_at_below v t (b + i * rows + (i + 1)) (b + i * rows + rows) (b + p * rows + k) nan (omega arith) y.kept
          ∙ kept_at_below s v (b + i * rows) (b + i * rows + (i + 1)) (b + p * rows + k) nan (omega arith) x.kept
          ∙ e p z k d

-- all rows are the whole matrix
pub square_all : (l s : List Float) (b rows : ℕ) → b + rows * rows ≤ length s → Square s b rows (entry_of l) rows → part s b (rows * rows) ≡ spread l rows
unfolding spread
square_all l s b rows h e = table_ext (entry_of l) rows rows (part s b (rows * rows)) (part_length s b (rows * rows) h) (λ i k p q. entry_at s b rows i k p q ∙ e i p k q)
