-- What the calls answer on a sheet that no test refuses, and what then stands in each lent place: judging, `joint_reading` and `snap` of solve.rs at the sheet's frames.
-- Document 01, "What a call says". Definitions only.
use Rattle.std.specs.Prelude.{ℕ, ◌≡◌, cond, List, ◌++◌, length, drop, eqb, ltb, Float}
use Rattle.std.proofs.Math.Option.{Option, none, some}
use Rattle.vectors.specs.Vec.{Vec, zero_v}
use Rattle.relations.specs.Geometry.{Pose}
use Rattle.relations.specs.Model.{Rel, pose_of_frame}
use Rattle.relations.specs.Rows.{ground_pose}
use Rattle.judging.specs.Judge.{Reading, joint_reading}
use Rattle.snapping.specs.Snap.{Motion, snap}
use Rattle.scene.specs.Scene.{pose_doubles}
use Rattle.records.specs.Record.{body_at, rel_at}
use Rattle.format.specs.Format.{bodies_of, body_start, rel_start}
use Rattle.refusals.specs.Refusals.{reading_fault, snap_fault}

-- relation j
abbrev pub relation_of : List ℕ → ℕ → Rel
relation_of s j = rel_at s (rel_start (bodies_of s) j)

-- the pose of an end's body, by its frame; the ground's where the end names no body
unfoldable pub pose_in : List ℕ → Option ℕ → Pose Float
pose_in s none = ground_pose
pose_in s (some i) = cond (ltb i (bodies_of s)) (pose_of_frame (body_at s (body_start i)).frame) ground_pose

-- the centre of an end's body; 0 where the end names no body
unfoldable pub center_in : List ℕ → Option ℕ → Vec Float
center_in s none = zero_v
center_in s (some i) = cond (ltb i (bodies_of s)) (body_at s (body_start i)).center zero_v

unfoldable pub reading_of : List ℕ → ℕ → Reading
reading_of s j =
    let rel = relation_of s j in
    joint_reading rel (pose_in s rel.a.body) (pose_in s rel.b.body)

unfoldable pub motion_of : List ℕ → ℕ → Motion
motion_of s j =
    let rel = relation_of s j in
    snap rel (pose_in s rel.a.body) (pose_in s rel.b.body) (center_in s rel.b.body)

abbrev pub reading_pair : Float → Float → Reading
reading_pair offset angle = record { offset = offset; angle = angle }

-- ---- the lent places after a call, from what stood there before: on refusal the same

unfoldable pub reading_after : List ℕ → ℕ → Reading → Reading
reading_after s j before = cond (eqb (reading_fault s j) 0) (reading_of s j) before

-- a longer slice keeps its rest
unfoldable pub motion_after : List ℕ → ℕ → List Float → List Float
motion_after s j before = cond (eqb (snap_fault s j (length before)) 0) (pose_doubles (motion_of s j) ++ drop 12 before) before

-- ---- the promises: the number r, and the lent places at entry and at exit

pub record ReadingAnswer (s : List ℕ) (j r : ℕ) (before after : Reading) : Type 0 where
  pub number : r ≡ reading_fault s j
  pub reading : after ≡ reading_after s j before

pub record SnapAnswer (s : List ℕ) (j r : ℕ) (before after : List Float) : Type 0 where
  pub number : r ≡ snap_fault s j (length before)
  pub motion : after ≡ motion_after s j before
