use Rattle.relations.proofs.RowsLaws.{padded}
use Rattle.relations.proofs.rows.Rows.of.Goals as goal

pub returns : goal.returns
returns c = rw c.copy_from_slice.ensures.after (padded c.args.rows.now c.requires)
