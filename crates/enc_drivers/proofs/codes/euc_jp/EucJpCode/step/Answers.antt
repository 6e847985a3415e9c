use Rattle.std.proofs.Common.{◌≡◌, ◌≤◌, ◌&&◌, ◌==◌, true, length, get_or, sym, ap, ◌∙◌, arith}
use Rattle.enc_drivers.specs.declared.unit.Item.TheVariants.{One}
use Rattle.enc_drivers.specs.declared.code.Step.TheVariants as step
use Rattle.enc_drivers.specs.Units.{scalar_at, malformed_at}
use Rattle.enc_drivers.specs.Codes.Sequence.{sequence_unit}
use Rattle.enc_drivers.specs.Codes.EucJp.{in_row, euc_jp_unit}
use Rattle.enc_drivers.proofs.StepLemmas.{decided_step, cut_step}
use Rattle.enc_drivers.proofs.EucJpSteps.{BeginsSequence, ascii_front, no_lead_front, lead_at_end, lead_undecided, two_front, second_at_end, second_undecided, three_front}
use Rattle.enc_drivers.proofs.codes.euc_jp.EucJpCode.step.Goals as goal

pub returns-then-lead-lt128 : goal.returns-then-lead-lt128
returns-then-lead-lt128 g c =
    let a = c.args in
    let jis0208 = g.L.Lookup.places a.self.now.jis0208.now in
    let jis0212 = g.L.Lookup.places a.self.now.jis0212.now in
    decided_step (euc_jp_unit jis0208 jis0212) a.mode a.front.now a.last c.one.result (scalar_at a.mode (get_or a.front.now 0 0) 1)
    (c.one.ensures ∙ ap (λ s. step.Unit (One s) 1 a.mode) c.from.ensures)
    (λ more are. ascii_front jis0208 jis0212 a.mode a.front.now more c.requires.some c.if-lead-lt128.true)

pub returns-then-not-is_lead : goal.returns-then-not-is_lead
returns-then-not-is_lead g c =
    let a = c.args in
    let jis0208 = g.L.Lookup.places a.self.now.jis0208.now in
    let jis0212 = g.L.Lookup.places a.self.now.jis0212.now in
    decided_step (euc_jp_unit jis0208 jis0212) a.mode a.front.now a.last c.malformed.result (malformed_at a.mode 1) c.malformed.ensures
    (λ more are. no_lead_front jis0208 jis0212 a.mode a.front.now more c.requires.some c.if-lead-lt128.false (sym c.is_lead.ensures ∙ c.if-not-is_lead.true))

pub returns-then-front-lt2 : goal.returns-then-front-lt2
returns-then-front-lt2 g c =
    let a = c.args in
    let jis0208 = g.L.Lookup.places a.self.now.jis0208.now in
    let jis0212 = g.L.Lookup.places a.self.now.jis0212.now in
    let begins : BeginsSequence a.front.now = record { some = c.requires.some; high = c.if-lead-lt128.false; lead = sym c.is_lead.ensures ∙ c.if-not-is_lead.false } in
    cut_step (euc_jp_unit jis0208 jis0212) a.mode a.front.now a.last c.cut.result 1 c.cut.ensures
    (lead_at_end jis0208 jis0212 a.mode a.front.now begins c.if-front-lt2.true)
    (lead_undecided jis0208 jis0212 a.mode a.front.now begins c.if-front-lt2.true)

pub returns-then-not-names_jis0212 : goal.returns-then-not-names_jis0212
returns-then-not-names_jis0212 g c =
    let a = c.args in
    let jis0208 = g.L.Lookup.places a.self.now.jis0208.now in
    let jis0212 = g.L.Lookup.places a.self.now.jis0212.now in
    let second = get_or a.front.now 1 0 in
    let begins : BeginsSequence a.front.now = record { some = c.requires.some; high = c.if-lead-lt128.false; lead = sym c.is_lead.ensures ∙ c.if-not-is_lead.false } in
    decided_step (euc_jp_unit jis0208 jis0212) a.mode a.front.now a.last c.sequence.result (sequence_unit a.mode c.two_byte_scalar.result 2 second) c.sequence.ensures
    (λ more are.
    two_front jis0208 jis0212 a.mode a.front.now more begins (omega arith) (sym c.names_jis0212.ensures ∙ c.if-not-names_jis0212.true)
    ∙ ap (λ o. sequence_unit a.mode o 2 second) (sym c.two_byte_scalar.ensures))

pub returns-then-front-lt3 : goal.returns-then-front-lt3
returns-then-front-lt3 g c =
    let a = c.args in
    let jis0208 = g.L.Lookup.places a.self.now.jis0208.now in
    let jis0212 = g.L.Lookup.places a.self.now.jis0212.now in
    let two : 2 ≤ length a.front.now = omega arith in
    let begins : BeginsSequence a.front.now = record { some = c.requires.some; high = c.if-lead-lt128.false; lead = sym c.is_lead.ensures ∙ c.if-not-is_lead.false } in
    let names : (get_or a.front.now 0 0 == 0x8F && in_row (get_or a.front.now 1 0)) ≡ true = sym c.names_jis0212.ensures ∙ c.if-not-names_jis0212.false in
    cut_step (euc_jp_unit jis0208 jis0212) a.mode a.front.now a.last c.cut-then-front-lt3.result 2 c.cut-then-front-lt3.ensures
    (second_at_end jis0208 jis0212 a.mode a.front.now begins two c.if-front-lt3.true names)
    (second_undecided jis0208 jis0212 a.mode a.front.now begins two c.if-front-lt3.true names)

pub returns : goal.returns
returns g c =
    let a = c.args in
    let jis0208 = g.L.Lookup.places a.self.now.jis0208.now in
    let jis0212 = g.L.Lookup.places a.self.now.jis0212.now in
    let third = get_or a.front.now 2 0 in
    let begins : BeginsSequence a.front.now = record { some = c.requires.some; high = c.if-lead-lt128.false; lead = sym c.is_lead.ensures ∙ c.if-not-is_lead.false } in
    decided_step (euc_jp_unit jis0208 jis0212) a.mode a.front.now a.last c.sequence-2.result (sequence_unit a.mode c.row_scalar.result 3 third) c.sequence-2.ensures
    (λ more are.
    three_front jis0208 jis0212 a.mode a.front.now more begins (omega arith) (sym c.names_jis0212.ensures ∙ c.if-not-names_jis0212.false)
    ∙ ap (λ o. sequence_unit a.mode o 3 third) (sym c.row_scalar.ensures))
