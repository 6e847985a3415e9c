use Rattle.std.proofs.Common.{sym, ◌∙◌, arith}
use Rattle.enc_handles.specs.Lemmas.TextLaws.{boundary8, FirstAt, first_at}
use Rattle.enc_handles.proofs.text_slice.utf8_scalar_at.Goals as goal

pub range_from-requires : goal.range_from-requires
range_from-requires c positive = boundary8 c.args.text.now c.args.at c.utf8.text (omega arith) c.requires.seam

first : (c : goal.After-len_utf8) → FirstAt c.args.text.now c.args.at c.in-Some.scalar c.len_utf8.result
first c =
    let front = sym c.range_from.ensures.value ∙ (sym c.chars.ensures.rest ∙ c.in-Some.ensures.steps.0) in
    first_at c.args.text.now c.next.new.self.rest.now c.args.at c.in-Some.scalar c.len_utf8.result c.utf8.text c.requires.seam (omega arith)
    c.len_utf8.ensures.len front

pub returns-in-Some-clause-seam : goal.returns-in-Some-clause-seam
returns-in-Some-clause-seam c = (first c).seam

pub returns-in-Some-clause-reads : goal.returns-in-Some-clause-reads
returns-in-Some-clause-reads c = (first c).reads
