-- `report::text::answer_text` puts `answer_text`, piece by piece (`put_then`). The relations' lines end at most 12 + 32 k bytes in (`relations_end`), the
-- line of the number at most 11 behind them (`number_end`), and each body takes at most 15: the text takes at most 5079 bytes of the 8192. Assumes nothing.
use Prim.Native.Nat.{◌+◌, ◌*◌, ◌≤◌}
use native.Mathlib.Omega.{arith}
use Rattle.report.specs.Report.{free_word}
use Rattle.writing.proofs.PutLaws.{put_then}
use Rattle.report.proofs.TextLaws.{number_length, relations_length}
use Rattle.report.proofs.text.answer_text.Goals as goal

pub put_number-c-requires : goal.put_number-c-requires
put_number-c-requires c =
    let few = relations_length c.args.errors.now c.args.k c.requires.k_bound in
    let relations_end : c.put_relations-b.result ≤ 12 + 32 * c.args.k = omega (arith, c.put_converged-a.ensures.next, c.put_relations-b.ensures.next) in
    record { n_bound = omega arith; word_in_bounds = omega arith }

pub put_bodies-requires : goal.put_bodies-requires
put_bodies-requires c =
    let few = relations_length c.args.errors.now c.args.k c.requires.k_bound in
    let relations_end : c.put_relations-b.result ≤ 12 + 32 * c.args.k = omega (arith, c.put_converged-a.ensures.next, c.put_relations-b.ensures.next) in
    let less = number_length free_word c.args.free c.requires.free_bound in
    let number_end : c.put_number-c.result ≤ 23 + 32 * c.args.k = omega (arith, c.put_number-c.ensures.next) in
    record { m_bound = omega arith; m_in_bounds = omega arith; m_in_bounds_2 = omega arith }

pub returns : goal.returns
returns c =
    put_then _ _ _ _ _ _ _ _ c.put_converged-a.ensures
    (put_then _ _ _ _ _ _ _ _ c.put_relations-b.ensures
    (put_then _ _ _ _ _ _ _ _ c.put_number-c.ensures c.put_bodies.ensures))
