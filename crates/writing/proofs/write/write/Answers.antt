-- `writing::write::write` answers as `WriteAnswer` says: each test that refuses gives its number and leaves the sheet as it was (`refused`); what all let through is
-- put as the scene's sheet (`written`). Assumes nothing.
use Rattle.std.proofs.Common.{rules, arith}
use Rattle.format.proofs.RefusalLaws.{or_else_fault}
use Rattle.writing.specs.Writing.{AllBytes, AllWords, AllDoubles, records_fault}
use Rattle.writing.specs.Lent.{lent_scene_fault, write_fault}
use Rattle.writing.proofs.LentLaws.{refused, written}
use Rattle.writing.proofs.write.write.Goals as goal

pub returns-in_err-counts_fault : goal.returns-in_err-counts_fault
unfolding write_fault lent_scene_fault records_fault
returns-in_err-counts_fault c =
    let o = c.args in
    let bytes : AllBytes o.bytes.now = λ i. omega (arith, c.type_inv.bytes i) in
    let words : AllWords o.words.now = λ i. omega (arith, c.type_inv.words i) in
    let numbers : AllDoubles o.numbers.now = λ i. c.type_inv.numbers i in
    refused o.m o.k o.bytes.now o.words.now o.numbers.now bytes words numbers o.sheet.now _ c.in_err-counts_fault.field-0.0 (search rules) (search (rules, or_else_fault))

pub returns-in_err-lent_fault : goal.returns-in_err-lent_fault
unfolding write_fault lent_scene_fault records_fault
returns-in_err-lent_fault c =
    let o = c.args in
    let bytes : AllBytes o.bytes.now = λ i. omega (arith, c.type_inv.bytes i) in
    let words : AllWords o.words.now = λ i. omega (arith, c.type_inv.words i) in
    let numbers : AllDoubles o.numbers.now = λ i. c.type_inv.numbers i in
    refused o.m o.k o.bytes.now o.words.now o.numbers.now bytes words numbers o.sheet.now _ c.in_err-lent_fault.field-0.0 (search rules) (search (rules, or_else_fault))

pub returns-in_err-bodies_fault : goal.returns-in_err-bodies_fault
unfolding write_fault lent_scene_fault records_fault
returns-in_err-bodies_fault c =
    let o = c.args in
    let bytes : AllBytes o.bytes.now = λ i. omega (arith, c.type_inv.bytes i) in
    let words : AllWords o.words.now = λ i. omega (arith, c.type_inv.words i) in
    let numbers : AllDoubles o.numbers.now = λ i. c.type_inv.numbers i in
    refused o.m o.k o.bytes.now o.words.now o.numbers.now bytes words numbers o.sheet.now _ c.in_err-bodies_fault.field-0.0 (search rules) (search (rules, or_else_fault))

pub returns-in_err-rels_fault : goal.returns-in_err-rels_fault
unfolding write_fault lent_scene_fault records_fault
returns-in_err-rels_fault c =
    let o = c.args in
    let bytes : AllBytes o.bytes.now = λ i. omega (arith, c.type_inv.bytes i) in
    let words : AllWords o.words.now = λ i. omega (arith, c.type_inv.words i) in
    let numbers : AllDoubles o.numbers.now = λ i. c.type_inv.numbers i in
    refused o.m o.k o.bytes.now o.words.now o.numbers.now bytes words numbers o.sheet.now _ c.in_err-rels_fault.field-0.0 (search rules) (search (rules, or_else_fault))

pub returns-in_err-room_fault : goal.returns-in_err-room_fault
unfolding write_fault lent_scene_fault records_fault
returns-in_err-room_fault c =
    let o = c.args in
    let bytes : AllBytes o.bytes.now = λ i. omega (arith, c.type_inv.bytes i) in
    let words : AllWords o.words.now = λ i. omega (arith, c.type_inv.words i) in
    let numbers : AllDoubles o.numbers.now = λ i. c.type_inv.numbers i in
    refused o.m o.k o.bytes.now o.words.now o.numbers.now bytes words numbers o.sheet.now _ c.in_err-room_fault.field-0.0 (search rules) (search (rules, or_else_fault))

pub returns : goal.returns
unfolding write_fault lent_scene_fault records_fault
returns c =
    let o = c.args in
    let bytes : AllBytes o.bytes.now = λ i. omega (arith, c.type_inv.bytes i) in
    let words : AllWords o.words.now = λ i. omega (arith, c.type_inv.words i) in
    let numbers : AllDoubles o.numbers.now = λ i. c.type_inv.numbers i in
    written o.m o.k o.bytes.now o.words.now o.numbers.now bytes words numbers o.sheet.now _ _ (search rules) c.put.ensures.0 c.put.ensures.1
