use Rattle.std.proofs.Common.{◌≡◌, true, get_or, sym, ap, ◌∙◌, arith}
use Rattle.enc_drivers.specs.declared.unit.Item.TheVariants.{One}
use Rattle.enc_drivers.specs.declared.code.Step.TheVariants as step
use Rattle.enc_drivers.specs.Units.{scalar_at, malformed_at}
use Rattle.enc_drivers.specs.Codes.Sequence.{sequence_unit}
use Rattle.enc_drivers.specs.Codes.Gb18030.{is_gb18030_lead, gb18030_unit}
use Rattle.enc_drivers.proofs.StepLemmas.{decided_step, cut_step}
use Rattle.enc_drivers.proofs.Gb18030Steps.{ascii_front, euro_front, no_lead_front, lead_at_end, lead_undecided, two_front}
use Rattle.enc_drivers.proofs.codes.gb18030.Gb18030Code.step.Goals as goal

pub returns-then-first-lt128 : goal.returns-then-first-lt128
returns-then-first-lt128 g c =
    let a = c.args in
    let index = g.L.Lookup.places a.self.now.index.now in
    let ranges = g.R.Lookup.places a.self.now.ranges.now in
    decided_step (gb18030_unit index ranges) a.mode a.front.now a.last c.one.result (scalar_at a.mode (get_or a.front.now 0 0) 1)
    (c.one.ensures ∙ ap (λ s. step.Unit (One s) 1 a.mode) c.from.ensures)
    (λ more are. ascii_front index ranges a.mode a.front.now more c.requires.some c.if-first-lt128.true)

pub returns-then-first : goal.returns-then-first
returns-then-first g c =
    let a = c.args in
    let index = g.L.Lookup.places a.self.now.index.now in
    let ranges = g.R.Lookup.places a.self.now.ranges.now in
    decided_step (gb18030_unit index ranges) a.mode a.front.now a.last c.one-then-first.result (scalar_at a.mode 0x20AC 1) c.one-then-first.ensures
    (λ more are. euro_front index ranges a.mode a.front.now more c.requires.some c.if-first.true)

pub returns-then-not-is_lead : goal.returns-then-not-is_lead
returns-then-not-is_lead g c =
    let a = c.args in
    let index = g.L.Lookup.places a.self.now.index.now in
    let ranges = g.R.Lookup.places a.self.now.ranges.now in
    decided_step (gb18030_unit index ranges) a.mode a.front.now a.last c.malformed.result (malformed_at a.mode 1) c.malformed.ensures
    (λ more are. no_lead_front index ranges a.mode a.front.now more c.requires.some (omega arith) (sym c.is_lead.ensures ∙ c.if-not-is_lead.true))

pub returns-then-front-lt2 : goal.returns-then-front-lt2
returns-then-front-lt2 g c =
    let a = c.args in
    let index = g.L.Lookup.places a.self.now.index.now in
    let ranges = g.R.Lookup.places a.self.now.ranges.now in
    let lead : is_gb18030_lead (get_or a.front.now 0 0) ≡ true = sym c.is_lead.ensures ∙ c.if-not-is_lead.false in
    cut_step (gb18030_unit index ranges) a.mode a.front.now a.last c.cut.result 1 c.cut.ensures
    (lead_at_end index ranges a.mode a.front.now c.requires.some c.if-front-lt2.true lead)
    (lead_undecided index ranges a.mode a.front.now c.requires.some c.if-front-lt2.true lead)

pub returns : goal.returns
returns g c =
    let a = c.args in
    let index = g.L.Lookup.places a.self.now.index.now in
    let ranges = g.R.Lookup.places a.self.now.ranges.now in
    let second = get_or a.front.now 1 0 in
    let lead : is_gb18030_lead (get_or a.front.now 0 0) ≡ true = sym c.is_lead.ensures ∙ c.if-not-is_lead.false in
    decided_step (gb18030_unit index ranges) a.mode a.front.now a.last c.sequence.result (sequence_unit a.mode c.two_byte_scalar.result 2 second) c.sequence.ensures
    (λ more are.
    two_front index ranges a.mode a.front.now more (omega arith) lead (sym c.is_digit.ensures ∙ c.if-is_digit.false)
    ∙ ap (λ o. sequence_unit a.mode o 2 second) (sym c.two_byte_scalar.ensures))
