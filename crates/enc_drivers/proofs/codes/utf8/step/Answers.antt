use Rattle.std.proofs.Common.{◌≡◌, sym, ap, ◌∙◌, arith}
use Rattle.enc_handles.specs.Utf8.{sequence_len, sequence_scalar}
use Rattle.enc_drivers.specs.Units.{scalar_at, malformed_at}
use Rattle.enc_drivers.specs.Codes.Utf8.{utf8_unit}
use Rattle.enc_drivers.proofs.StepLemmas.{decided_step, cut_step}
use Rattle.enc_drivers.proofs.Utf8Steps.{sequence_front, malformed_alone, malformed_front, begun_undecided, goes_on_from, ends_from}
use Rattle.enc_drivers.proofs.codes.utf8.step.Goals as goal

pub returns-then-whole-gt0 : goal.returns-then-whole-gt0
returns-then-whole-gt0 c = λ more follows.
    sequence_front c.args.mode c.args.front.now more (omega arith)
    ∙ (ap (λ n. scalar_at c.args.mode (sequence_scalar c.args.front.now) n) (sym c.sequence_len-whole.ensures.value)
    ∙ ap (λ s. scalar_at c.args.mode s c.sequence_len-whole.result) (sym c.sequence_char.ensures))

pub returns-then-goes_on : goal.returns-then-goes_on
returns-then-goes_on c =
    let front = c.args.front.now in
    let none : sequence_len front ≡ 0 = omega arith in
    let on = goes_on_from front c.malformed_len-wrong.result c.malformed_len-wrong.ensures (sym c.goes_on.ensures ∙ c.if-goes_on.true) in
    cut_step utf8_unit c.args.mode front c.args.last c.cut.result c.malformed_len-wrong.result c.cut.ensures
    (malformed_alone c.args.mode front none ∙ ap (λ n. malformed_at c.args.mode n) (sym c.malformed_len-wrong.ensures))
    (begun_undecided c.args.mode front c.requires.some none on.0 on.1)

pub returns : goal.returns
returns c =
    let front = c.args.front.now in
    let none : sequence_len front ≡ 0 = omega arith in
    let ends = ends_from front c.malformed_len-wrong.result c.requires.some none c.malformed_len-wrong.ensures (sym c.goes_on.ensures ∙ c.if-goes_on.false) in
    decided_step utf8_unit c.args.mode front c.args.last c.malformed.result (malformed_at c.args.mode c.malformed_len-wrong.result) c.malformed.ensures
    (λ more are. malformed_front front c.requires.some none ends c.args.mode more are ∙ ap (λ n. malformed_at c.args.mode n) (sym c.malformed_len-wrong.ensures))
