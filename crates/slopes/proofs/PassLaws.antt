-- The rows of relations, one relation after another: from some row on stand those of the relations to come. A relation's own rows stand first among them, and their slopes are those of the
-- rows from there on. Assumes nothing.
use mathlib.Core.Path.{◌≡◌, sym, ap, ◌∙◌}
use mathlib.Core.List.{List, [], ◌++◌}
use Prim.Native.Nat.{ℕ, ◌+◌, ◌≤◌, ◌<◌}
use native.Mathlib.Omega.{arith}
use lib.ListN.{length, get_or, drop, length-drop, length-append, get_or-append}
use lib.Seq.{get_or-drop, drop-drop, drop-append_seam}
use lib.Ieee.{Float, nan}
use Rattle.relations.specs.Geometry.{Pose}
use Rattle.least_squares.specs.Lm.{slope_of}
use Rattle.slopes.specs.Moved.{poses_ahead, poses_behind, moved_slope}

-- rows as a function of the poses
abbrev pub RowsBy : Type 0
RowsBy = List (Pose Float) → List Float

-- of all rows, those from row r on are `rest`, wherever the bodies stand
pub record From (all rest : RowsBy) (r : ℕ) : Type 0 where
  pub holds : (poses : List (Pose Float)) → drop r (all poses) ≡ rest poses
  pub among : (poses : List (Pose Float)) → r ≤ length (all poses)

-- they are those of one relation, and then those of the next ones; how many there are does not depend on the poses
module _ (all rest one next : RowsBy) (r : ℕ) (split : (poses : List (Pose Float)) → rest poses ≡ one poses ++ next poses)
    (alike : (poses poses' : List (Pose Float)) → length (one poses) ≡ length (one poses')) (g : From all rest r) where
  here : (poses : List (Pose Float)) → drop r (all poses) ≡ one poses ++ next poses
  here poses = g.holds poses ∙ split poses

  pub from_room : (poses : List (Pose Float)) → r + length (one poses) ≤ length (all poses)
  from_room poses =
      let a = length-drop r (all poses) in
      let d = ap length (here poses) in
      let e = length-append (one poses) (next poses) in
      let w = g.among poses in
      omega arith

  pub from_step : (poses : List (Pose Float)) (count : ℕ) → count ≡ length (one poses) → From all next (r + count)
  from_step poses count e = record { holds = go; among = λ q. let w = from_room q in let a = alike poses q in omega arith }
    where
      go : (q : List (Pose Float)) → drop (r + count) (all q) ≡ next q
      go q =
          sym (drop-drop count r (all q)) ∙ ap (drop count) (here q) ∙ ap (λ (w : ℕ). drop w (one q ++ next q)) (e ∙ alike poses q) ∙ drop-append_seam (one q) (next q)

  from_at : (poses : List (Pose Float)) (q : ℕ) → q < length (one poses) → get_or (one poses) q nan ≡ get_or (all poses) (r + q) nan
  from_at poses q l = sym (get_or-append (one poses) (next poses) nan q l) ∙ ap (λ (w : List Float). get_or w q nan) (sym (here poses)) ∙ get_or-drop r (all poses) q nan

  -- the slopes of the relation's rows are those of the rows from r on
  pub from_slope : (poses poses' : List (Pose Float)) (i : ℕ) (moved steps : List Float) (q e : ℕ) → poses' ≡ poses → q < length (one poses')
      → moved_slope one poses' i moved steps q e ≡ moved_slope all poses i moved steps (r + q) e
  from_slope poses poses' i moved steps q e same l =
      let a = poses_ahead poses' i moved e in
      let b = poses_behind poses' i moved e in
      let x = from_at a q (rw (alike a poses') l) in
      let y = from_at b q (rw (alike b poses') l) in
      (λ z. slope_of (x z) (y z) (get_or steps e nan)) ∙ ap (λ (w : List (Pose Float)). moved_slope all w i moved steps (r + q) e) same

pub from_end : (all rest : RowsBy) (r : ℕ) (poses : List (Pose Float)) → rest poses ≡ [] → From all rest r → r ≡ length (all poses)
from_end all rest r poses e g =
    let a = length-drop r (all poses) in
    let d = ap length (g.holds poses ∙ e) in
    let w = g.among poses in
    omega arith
