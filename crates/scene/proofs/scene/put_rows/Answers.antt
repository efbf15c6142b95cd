use Rattle.std.proofs.Common.{refl, ◌+◌, ◌-◌, take, arith}
use Rattle.std.proofs.lemmas.List.{length-take-le}
use Rattle.relations.specs.Rows.{rows_of}
use Rattle.scene.proofs.PutLaws.{put_to}
use Rattle.scene.proofs.scene.put_rows.Goals as goal

pub returns : goal.returns
unfolding rows_of
returns c =
    let r = c.args.rows in
    let o = c.args.at in
    record {
      next = refl;
      put = rw c.copy_from_slice.ensures.after (put_to c.args.s.now (take r.n r.values) o (o + r.n - o) r.n (omega arith) (length-take-le _ _ (omega arith)) c.requires.n_in_bounds);
    }
