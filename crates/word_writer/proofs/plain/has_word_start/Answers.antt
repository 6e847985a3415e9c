use Rattle.std.proofs.lemmas.List.{nil_from_length}
use Rattle.word_writer.proofs.WordStarts.{start-here, start-later, start-none}
use Rattle.std.proofs.Common.{sym, ◌∙◌}
use Rattle.word_writer.proofs.plain.has_word_start.Goals as goal

pub returns-then-starts_with : goal.returns-then-starts_with
returns-then-starts_with c = start-here c.loop-more.rest.now c.if-starts_with.ensures.value ∙ sym c.loop-more.invariant

pub loop-more-preserved : goal.loop-more-preserved
loop-more-preserved c = start-later c.loop-more.rest.now c.in-Some.more.now c.args.bytes.now c.in-Some.field-0-0.now c.in-Some.ensures.cases.0 c.if-starts_with.ensures.value c.loop-more.invariant

pub returns : goal.returns
returns c = start-none c.loop-more.rest.now (nil_from_length c.loop-more.rest.now c.in_default.ensures.cases) ∙ sym c.loop-more.invariant
