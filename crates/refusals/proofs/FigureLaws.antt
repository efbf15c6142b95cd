-- How many unknowns and rows a scene can have, and that the scratch figures of the code are those of the definitions. By induction over bodies and relations. Assumes
-- nothing.
use mathlib.Core.Path.{◌≡◌, refl, sym, ap, ◌∙◌}
use mathlib.Core.List.{List}
use Prim.Native.Nat.{ℕ, ◌+◌, ◌*◌, ◌≤◌}
use native.Mathlib.Nat.{add-zero, mul-le-mul}
use lib.Dec.{leb}
use borrow.Author.Tests.{leb-true}
use native.Mathlib.Omega.{arith}
use lib.ListN.{length}
use Rattle.scene.specs.Scene.{scene_in}
use Rattle.scene.proofs.LayoutLaws.{scene_small}
use Rattle.least_squares.proofs.TriangleLaws.{triangle_few}
use Rattle.scene.specs.Scene.{scene_of, SceneMade}
use Rattle.least_squares.specs.Lm.{list_of}
use Rattle.least_squares.specs.Triangle.{triangle}
use Rattle.scene.specs.Solve.{start_at, Scene, unknowns, poses_at}
use Rattle.scene.specs.declared.scene.Scene.{Scene as SceneStruct}
use Rattle.format.specs.Format.{bodies_of, relations_of}
use Rattle.refusals.specs.SceneAt.{scene_at}
use Rattle.format.specs.Faults.{header_zeros, header_counts, header_offsets, header_fault, sheet_fault}
use Rattle.refusals.specs.Refusals.{rows_in}
use Rattle.format.proofs.RefusalLaws.{and_left, and_right, passes, faultless}

-- ---- a sheet that passes has at most 64 bodies and 128 relations

pub counted : (s : List ℕ) → sheet_fault s ≡ 0 → (bodies_of s ≤ 64) × (relations_of s ≤ 128)
unfolding header_fault header_counts
counted s h =
    let f = (faultless s (bodies_of s) (relations_of s) refl refl h).header in
    let c = (passes (leb 24 (length s)) (header_zeros s) (header_counts s) (header_offsets s) f).2 in
    (leb-true (bodies_of s) 64 (and_left (leb (bodies_of s) 64) _ c), leb-true (relations_of s) 128 (and_right (leb (bodies_of s) 64) _ c))

-- ---- the scene's counts are R and n

module _ (s : List ℕ) (c : SceneStruct) (made : SceneMade s 24 (bodies_of s) (24 + 136 * bodies_of s) (relations_of s) c) where
  pub scene_is : scene_of s c ≡ scene_at s
  scene_is = made.scene ∙ ap (λ (w : ℕ). scene_in s 24 (bodies_of s) w (relations_of s)) (sym (add-zero (24 + 136 * bodies_of s)))

  pub unknown_count : c.n ≡ unknowns (scene_at s)
  unknown_count = made.laid.unknown_count ∙ ap (λ (sc : Scene). unknowns sc) scene_is

  pub row_count : c.rows ≡ rows_in (scene_at s)
  row_count = sym (made.laid.row_count (poses_at (scene_of s c) (list_of start_at (unknowns (scene_of s c))))) ∙ ap (λ (sc : Scene). rows_in sc) scene_is

-- products of the two fit
pub product_le : (a b c d : ℕ) → a ≤ c → b ≤ d → a * b ≤ c * d
product_le a b c d h l = mul-le-mul h l

-- the counts, their products and the triangle are small
pub record Few (c : SceneStruct) : Type 0 where
  pub bodies : c.m ≤ 64
  pub unknowns : c.n ≤ 384
  pub rows : c.rows ≤ 896
  pub slopes : c.rows * c.n ≤ 344064
  pub matrix : c.rows * c.rows ≤ 802816
  pub half : triangle c.rows ≤ 401856
  pub square : c.n * c.n ≤ 147456

pub few : (s : List ℕ) (c : SceneStruct) → SceneMade s 24 (bodies_of s) (24 + 136 * bodies_of s) (relations_of s) c → sheet_fault s ≡ 0 → Few c
few s c made h =
    let k = counted s h in
    let z = scene_small s c made.laid in
    let r = z.0 in
    let n = z.1 in
    let m = made.body_count in
    record {
      bodies = omega arith;
      unknowns = n;
      rows = r;
      slopes = product_le c.rows c.n 896 384 r n;
      matrix = product_le c.rows c.rows 896 896 r r;
      half = triangle_few c.rows r;
      square = product_le c.n c.n 384 384 n n;
    }
