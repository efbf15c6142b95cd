-- `rounds::parts::Solver::one_round` meets its contract: the filling of slopes and the forming of the matrix are each lent the scratch from a place on. What they promise of their part
-- is said of the whole (`sloped`, `formed`), and from there the trials go on. Assumes nothing.
use mathlib.Core.Path.{◌∙◌}
use mathlib.Core.List.{List}
use Prim.Native.Nat.{◌-◌}
use borrow.Rule.Slice.PartMut.{put_mid}
use lib.ListN.{length}
use lib.Ieee.{Float}
use Rattle.scene.specs.Scene.{scene_of, Slopes}
use Rattle.rounds.proofs.RoundLaws.{arranged_same, apart_lent, matrix_room, matrix_finite, sloped_finite, slopes_lent, Formed, matrix_lent, round_made, arranged_within}
use Rattle.rounds.proofs.parts.Solver.one_round.Goals as goal

pub slopes-requires : goal.slopes-requires
slopes-requires c =
    let g = c.args in
    record { apart = apart_lent g.self.now.sheet.scene g.self.now.parts g.s.now (arranged_within c.args.self.now.arranged c.requires.scratch) }

-- `filled` is the scratch with the slopes filled, `made` that with the matrix formed too
pub matrix-requires : goal.matrix-requires
matrix-requires c =
    let g = c.args in
    let sc = scene_of g.self.now.sheet.bytes.now g.self.now.sheet.scene in
    let filled : List Float = put_mid g.self.now.parts.x (length g.s.now - g.self.now.parts.x) g.s.now c.slopes.new.s in
    let sloped : Slopes sc g.s.now filled g.self.now.parts.slopes g.self.now.sheet.scene.n g.self.now.sheet.scene.rows g.self.now.parts.x g.self.now.parts.poses = slopes_lent sc g.self.now.sheet.scene g.self.now.parts g.s.now c.slopes.new.s (arranged_within c.args.self.now.arranged c.requires.scratch) c.slopes.ensures in
    let at = arranged_same sloped.size (arranged_within c.args.self.now.arranged c.requires.scratch) in
    let f = sloped_finite sc g.self.now.sheet.scene g.self.now.parts g.s.now filled (arranged_within c.args.self.now.arranged c.requires.scratch) sloped c.requires.s_value in
    record { rows_bound = (c.requires.rows_bound, c.args.self.now.sheet.small.1); n_in_bounds = matrix_room g.self.now.sheet.scene g.self.now.parts filled at; finite_at = matrix_finite g.self.now.sheet.scene g.self.now.parts filled at f.0 f.1 }

pub trials-requires : goal.trials-requires
trials-requires c =
    let g = c.args in
    let sc = scene_of g.self.now.sheet.bytes.now g.self.now.sheet.scene in
    let filled : List Float = put_mid g.self.now.parts.x (length g.s.now - g.self.now.parts.x) g.s.now c.slopes.new.s in
    let sloped : Slopes sc g.s.now filled g.self.now.parts.slopes g.self.now.sheet.scene.n g.self.now.sheet.scene.rows g.self.now.parts.x g.self.now.parts.poses = slopes_lent sc g.self.now.sheet.scene g.self.now.parts g.s.now c.slopes.new.s (arranged_within c.args.self.now.arranged c.requires.scratch) c.slopes.ensures in
    let made : List Float = put_mid g.self.now.parts.slopes (length filled - g.self.now.parts.slopes) filled c.matrix.new.s in
    let formed : Formed g.self.now.sheet.scene g.self.now.parts filled made = matrix_lent g.self.now.sheet.scene g.self.now.parts filled c.matrix.new.s (arranged_same sloped.size (arranged_within c.args.self.now.arranged c.requires.scratch)) c.matrix.ensures in
    record { scratch = (arranged_same (formed.kept.size ∙ sloped.size) (arranged_within c.args.self.now.arranged c.requires.scratch)).poses; rows_bound = c.requires.rows_bound }

pub shape_of-s : goal.shape_of-s
shape_of-s c =
    let g = c.args in
    let sc = scene_of g.self.now.sheet.bytes.now g.self.now.sheet.scene in
    let filled : List Float = put_mid g.self.now.parts.x (length g.s.now - g.self.now.parts.x) g.s.now c.slopes.new.s in
    let sloped : Slopes sc g.s.now filled g.self.now.parts.slopes g.self.now.sheet.scene.n g.self.now.sheet.scene.rows g.self.now.parts.x g.self.now.parts.poses = slopes_lent sc g.self.now.sheet.scene g.self.now.parts g.s.now c.slopes.new.s (arranged_within c.args.self.now.arranged c.requires.scratch) c.slopes.ensures in
    let made : List Float = put_mid g.self.now.parts.slopes (length filled - g.self.now.parts.slopes) filled c.matrix.new.s in
    let formed : Formed g.self.now.sheet.scene g.self.now.parts filled made = matrix_lent g.self.now.sheet.scene g.self.now.parts filled c.matrix.new.s (arranged_same sloped.size (arranged_within c.args.self.now.arranged c.requires.scratch)) c.matrix.ensures in
    c.trials.ensures.leaves.keeps.size ∙ formed.kept.size ∙ sloped.size

pub returns : goal.returns
returns c =
    let g = c.args in
    let sc = scene_of g.self.now.sheet.bytes.now g.self.now.sheet.scene in
    let filled : List Float = put_mid g.self.now.parts.x (length g.s.now - g.self.now.parts.x) g.s.now c.slopes.new.s in
    let sloped : Slopes sc g.s.now filled g.self.now.parts.slopes g.self.now.sheet.scene.n g.self.now.sheet.scene.rows g.self.now.parts.x g.self.now.parts.poses = slopes_lent sc g.self.now.sheet.scene g.self.now.parts g.s.now c.slopes.new.s (arranged_within c.args.self.now.arranged c.requires.scratch) c.slopes.ensures in
    let made : List Float = put_mid g.self.now.parts.slopes (length filled - g.self.now.parts.slopes) filled c.matrix.new.s in
    let formed : Formed g.self.now.sheet.scene g.self.now.parts filled made = matrix_lent g.self.now.sheet.scene g.self.now.parts filled c.matrix.new.s (arranged_same sloped.size (arranged_within c.args.self.now.arranged c.requires.scratch)) c.matrix.ensures in
    round_made sc g.self.now.sheet.scene g.self.now.parts g.s.now filled made _ g.cost g.mu c.trials.result (arranged_within c.args.self.now.arranged c.requires.scratch) sloped formed c.trials.ensures
