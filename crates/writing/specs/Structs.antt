-- The solver's bodies and relations, made of the parts that a sheet holds. Document 01, "The sheet", for the order of
-- the parts; document 02, 2/14. A law and a primitive take the parts that they use. Definitions only.
use Rattle.std.specs.Prelude.{ℕ, ◌+◌, ◌<◌, ◌≡◌, List, [], ◌∷◌, get_or, Float}
use Rattle.std.specs.Float.{nan}
use Rattle.vectors.specs.Vec.{Vec}
use Rattle.relations.specs.Model.{Body, End, Law, mate, flush, angle, insert, tangent, symmetry, joint, gear, Rel}
use Rattle.records.specs.Numbers.{law_number, by_number}
use Rattle.records.specs.Record.{byte_at, flag_at, prim_at, joint_kind_at, body_number_at, body_at, rel_at}
use Rattle.format.specs.Format.{bodies_of, relations_of, body_start, rel_start}
use Rattle.format.specs.Faults.{sheet_fault}
use Rattle.writing.specs.Writing.{BodyParts, RelParts, SceneParts}

-- three numbers from place i on
abbrev pub vec_from : List Float → ℕ → Vec Float
vec_from xs i = record { x = get_or xs i nan; y = get_or xs (i + 1) nan; z = get_or xs (i + 2) nan }

unfoldable pub body_from : BodyParts → Body
body_from p =
    let xs = p.numbers in
    record {
      frame = record { origin = vec_from xs 0; x = vec_from xs 3; y = vec_from xs 6; z = vec_from xs 9 };
      fixed = flag_at p.bytes 0;
      center = vec_from xs 12;
      size = get_or xs 15 nan;
    }

-- an end, by its bytes from place b on, its body's word at w and its numbers from place x on
unfoldable pub end_from : RelParts → ℕ → ℕ → ℕ → End
end_from p b w x =
    let xs = p.numbers in
    record {
      body = body_number_at (get_or p.words w 0);
      prim = prim_at (byte_at p.bytes b) (vec_from xs x) (vec_from xs (x + 3)) (get_or xs (x + 6) nan);
      radius = get_or xs (x + 7) nan;
      mirrored = flag_at p.bytes (b + 1);
    }

-- the law by its number
unfoldable pub law_from : ℕ → RelParts → Law
law_from n p =
    let off = get_or p.numbers 0 nan in
    let want = get_or p.numbers 1 nan in
    let flag = flag_at p.bytes 2 in
    let third = end_from p 7 4 21 in
    by_number law_number n
    (mate off
    ∷ flush off
    ∷ angle want (vec_from p.numbers 2)
    ∷ insert off flag
    ∷ tangent off flag
    ∷ symmetry third
    ∷ joint (joint_kind_at (byte_at p.bytes 1)) flag off want
    ∷ [])
    (gear (get_or p.words 0 0) (get_or p.words 1 0) want third)

unfoldable pub rel_from : RelParts → Rel
rel_from p = record { law = law_from (byte_at p.bytes 0) p; a = end_from p 3 2 5; b = end_from p 5 3 13 }

-- s is accepted, and the bodies and relations that the solver reads in it are those made of the scene's parts
pub record SolverReads (sc : SceneParts) (s : List ℕ) : Type 0 where
  pub accepted : sheet_fault s ≡ 0
  pub bodies : bodies_of s ≡ sc.m
  pub relations : relations_of s ≡ sc.k
  pub body_is : (i : ℕ) → i < sc.m → body_at s (body_start i) ≡ body_from (sc.body i)
  pub rel_is : (j : ℕ) → j < sc.k → rel_at s (rel_start sc.m j) ≡ rel_from (sc.rel j)
