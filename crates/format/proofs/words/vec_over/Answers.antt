-- `format::words::vec_over` joins the words of three doubles: the definitions unfold to the three coordinates; joined, the
-- words tell what each of them tells (`both`), and that one call promises of each. Assumes nothing.
use Rattle.records.specs.Limits.{within_v}
use Rattle.format.specs.Words.{vec_word}
use Rattle.format.proofs.WordLaws.{both}
use Rattle.format.proofs.words.vec_over.Goals as goal

pub returns : goal.returns
unfolding within_v vec_word
returns c =
    let x = c.double_over-x.ensures in
    let y = c.double_over-y.ensures in
    let z = c.double_over-z.ensures in
    record { bits = rw (x.bits, y.bits, z.bits); tells = both x.tells (both y.tells z.tells) }
