-- A slice written over from a place on, its front and its rest as they were, has the written list there and keeps all else. Assumes nothing.
use Rattle.std.proofs.Common.{◌≡◌, ◌∙◌, sym, ap, subst, ℕ, ◌+◌, ◌≤◌, List, ◌++◌, length, take, drop, arith}
use Rattle.std.proofs.lemmas.List.{length-append, length-take-le, take_at, drop_at}
use borrow.Rule.Slice.PartMut.{put_mid}
use lib.ListN.{length-drop}
use lib.Seq.{drop-drop}
use Rattle.std.specs.Prelude.{Float}
use Rattle.scene.specs.Scene.{Put}

module _ (s l : List Float) (o k : ℕ) (el : length l ≡ k) (room : o + k ≤ length s) where
  front : length (take o s) ≡ o
  front = length-take-le o s (omega (arith, room))

  behind : drop o (take o s ++ (l ++ drop (o + k) s)) ≡ l ++ drop (o + k) s
  behind = drop_at (take o s) (l ++ drop (o + k) s) o front

  size : length (take o s ++ (l ++ drop (o + k) s)) ≡ length s
  size = length-append (take o s) (l ++ drop (o + k) s) ∙ rw (front, length-append l (drop (o + k) s), el, length-drop (o + k) s) (omega (arith, room))

  pub put_between : Put s (take o s ++ (l ++ drop (o + k) s)) o k l
  put_between =
      record {
        holds = ap (take k) behind ∙ take_at l (drop (o + k) s) k el;
        kept =
            record {
              size = size;
              below = take_at (take o s) (l ++ drop (o + k) s) o front;
              above = sym (drop-drop k o (take o s ++ (l ++ drop (o + k) s))) ∙ ap (drop k) behind ∙ drop_at l (drop (o + k) s) k el;
            };
      }

-- the same of the j places from o on, as a call that is lent them leaves it
pub put_to : (s l : List Float) (o j k : ℕ) → j ≡ k → length l ≡ k → o + k ≤ length s → Put s (put_mid o j s l) o k l
put_to s l o j k e el room =
    subst (λ (i : ℕ). Put s (put_mid o i s l) o k l) (sym e) (subst (λ (d : List Float). Put s (take o s ++ (l ++ d)) o k l) (sym (drop-drop k o s)) (put_between s l o k el room))
