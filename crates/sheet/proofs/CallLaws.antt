-- The calls from their parts: the tests of a call one after another, and what it makes of the sheet's frames. Assumes nothing.
use mathlib.Core.Path.{◌≡◌, refl, sym, ◌∙◌}
use mathlib.Core.Bool.{Bool, true, false, cond}
use mathlib.Core.List.{List, ◌++◌}
use mathlib.Core.Option.{some}
use Prim.Native.Nat.{ℕ, zero, suc, ◌<◌, ◌≤◌}
use native.Mathlib.Omega.{arith}
use lib.ListN.{length, drop}
use lib.Dec.{leb, ltb}
use lib.Ieee.{Float}
use borrow.Author.Tests.{ltb-true, lt-ltb, le-leb, lt-leb, ne_eqb}
use Rattle.vectors.specs.Vec.{Vec}
use Rattle.relations.specs.Geometry.{Pose}
use Rattle.relations.specs.Model.{Body, Rel, pose_of_frame}
use Rattle.judging.specs.Judge.{Reading, judge, joint_reading}
use Rattle.snapping.specs.Snap.{Motion, snap}
use Rattle.scene.specs.Scene.{pose_doubles}
use Rattle.records.specs.Record.{body_at}
use Rattle.format.specs.Format.{bodies_of, relations_of, body_start, rel_start}
use Rattle.format.specs.Faults.{or_else, unless, sheet_fault}
use Rattle.refusals.specs.Refusals.{relation_fault, judge_fault, reading_fault, snap_fault}
use Rattle.sheet.specs.Calls.{relation_of, pose_in, center_in, reading_of, motion_of, reading_after, motion_after}
use Rattle.format.proofs.RefusalLaws.{later, none_of, sheet_passes}

-- ---- one test after another

or_else_assoc : (a b c : ℕ) → or_else a (or_else b c) ≡ or_else (or_else a b) c
or_else_assoc zero b c = refl
or_else_assoc (suc a) b c = refl

pub judge_parts : (s : List ℕ) (j : ℕ) → judge_fault s j ≡ or_else (reading_fault s j) (judge (relation_of s j))
unfolding judge_fault reading_fault
judge_parts s j = or_else_assoc (sheet_fault s) (relation_fault s j) (judge (relation_of s j))

pub snap_parts : (s : List ℕ) (j n : ℕ) → snap_fault s j n ≡ or_else (reading_fault s j) (unless (leb 12 n) 10)
unfolding snap_fault reading_fault
snap_parts s j n = or_else_assoc (sheet_fault s) (relation_fault s j) (unless (leb 12 n) 10)

-- ---- what passing says of the sheet

found : (t : Bool) → ◌≡◌ {A = ℕ} (cond t 0 13) 0 → t ≡ true
found true h = refl
found false h = absurd (let z : ◌≡◌ {A = ℕ} 13 0 = h in omega arith)

-- the sheet's length, and a relation of its own
pub record Has (s : List ℕ) (j : ℕ) : Type 0 where
  pub header : 24 ≤ length s
  pub whole : length s ≡ rel_start (bodies_of s) (relations_of s)
  pub below : j < relations_of s

pub reading_passes : (s : List ℕ) (j : ℕ) → reading_fault s j ≡ 0 → Has s j
unfolding reading_fault
reading_passes s j h =
    let p = none_of (sheet_fault s) (relation_fault s j) h in
    let z = sheet_passes s p.0 in
    record { header = z.header; whole = z.whole; below = ltb-true j (relations_of s) (found (ltb j (relations_of s)) p.1) }

pub twelve_lent : (n : ℕ) → 12 ≤ n → 0 ≡ unless (leb 12 n) 10
twelve_lent n h = rw (le-leb 12 n h)

pub fewer_lent : (n : ℕ) → n < 12 → 10 ≡ unless (leb 12 n) 10
fewer_lent n h = rw (lt-leb 12 n h)

-- ---- poses, centres, and what is made of them

pub pose_there : (s : List ℕ) (i m : ℕ) (b : Body) (q : Pose Float) → m ≡ bodies_of s → i < m → b ≡ body_at s (body_start i) → q ≡ pose_of_frame b.frame
    → q ≡ pose_in s (some i)
unfolding pose_in
pose_there s i m b q em l eb eq = rw (eq, eb, ← em, lt-ltb i m l)

pub reading_is : (s : List ℕ) (j : ℕ) (rel : Rel) (qa qb : Pose Float) (w : Reading) → rel ≡ relation_of s j → qa ≡ pose_in s rel.a.body → qb ≡ pose_in s rel.b.body
    → w ≡ joint_reading rel qa qb → w ≡ reading_of s j
unfolding reading_of
reading_is s j rel qa qb w er ea eb ew = rw (ew, ea, eb, er)

pub motion_is : (s : List ℕ) (j : ℕ) (rel : Rel) (qa qb : Pose Float) (o : Vec Float) (w : Motion) → rel ≡ relation_of s j → qa ≡ pose_in s rel.a.body
    → qb ≡ pose_in s rel.b.body → o ≡ center_in s rel.b.body → w ≡ snap rel qa qb o → w ≡ motion_of s j
unfolding motion_of
motion_is s j rel qa qb o w er ea eb eo ew = rw (ew, ea, eb, eo, er)

-- ---- the lent places

pub reading_done : (s : List ℕ) (j f : ℕ) (before w : Reading) → f ≡ reading_fault s j → f ≡ 0 → w ≡ reading_of s j → w ≡ reading_after s j before
unfolding reading_after
reading_done s j f before w q z e = let h : reading_fault s j ≡ 0 = sym q ∙ z in rw (e, h)

pub reading_kept : (s : List ℕ) (j f : ℕ) (before : Reading) → f ≡ reading_fault s j → (f ≡ 0 → ⊥) → before ≡ reading_after s j before
unfolding reading_after
reading_kept s j f before q ne = rw (ne_eqb (reading_fault s j) 0 (λ z. ne (q ∙ z)))

pub motion_done : (s : List ℕ) (j : ℕ) (before after : List Float) (m : Pose Float) → 0 ≡ snap_fault s j (length before) → m ≡ motion_of s j
    → after ≡ pose_doubles m ++ drop 12 before → after ≡ motion_after s j before
unfolding motion_after
motion_done s j before after m q em e = let h : snap_fault s j (length before) ≡ 0 = sym q in rw (e, em, h)

pub motion_kept : (s : List ℕ) (j f : ℕ) (before : List Float) → f ≡ snap_fault s j (length before) → (f ≡ 0 → ⊥) → before ≡ motion_after s j before
unfolding motion_after
motion_kept s j f before q ne = rw (ne_eqb (snap_fault s j (length before)) 0 (λ z. ne (q ∙ z)))

-- fewer than twelve doubles are lent, the sheet and the relation passing
pub snap_short : (s : List ℕ) (j n : ℕ) → reading_fault s j ≡ 0 → n < 12 → snap_fault s j n ≡ 10
snap_short s j n z h = sym (later _ _ _ _ _ (snap_parts s j n) (sym z) refl (fewer_lent n h))

pub motion_short : (s : List ℕ) (j : ℕ) (before : List Float) → reading_fault s j ≡ 0 → length before < 12 → motion_after s j before ≡ before
motion_short s j before z h = sym (motion_kept s j 10 before (sym (snap_short s j (length before) z h)) (λ w. omega arith))
