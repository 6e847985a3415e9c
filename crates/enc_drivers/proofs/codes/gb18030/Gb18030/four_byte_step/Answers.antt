use Rattle.std.proofs.Common.{◌≡◌, ◌≤◌, true, length, get_or, sym, ap, ◌∙◌, arith}
use Rattle.enc_drivers.specs.Units.{malformed_at}
use Rattle.enc_drivers.specs.Codes.Sequence.{whole_unit}
use Rattle.enc_drivers.specs.Codes.Gb18030.{is_gb18030_lead, gb18030_unit}
use Rattle.enc_drivers.proofs.StepLemmas.{decided_step, cut_step}
use Rattle.enc_drivers.proofs.Gb18030Steps.{BeginsFour, digit_at_end, digit_undecided, no_third_front, third_at_end, third_undecided, no_fourth_front, four_front}
use Rattle.enc_drivers.proofs.codes.gb18030.Gb18030.four_byte_step.Goals as goal

pub returns-then-front-lt3 : goal.returns-then-front-lt3
returns-then-front-lt3 g c =
    let a = c.args in
    let index = g.L.Lookup.places a.self.now.index.now in
    let ranges = g.R.Lookup.places a.self.now.ranges.now in
    let begins : BeginsFour a.front.now = record { two = c.requires.two; lead = c.requires.lead; digit = c.requires.digit } in
    cut_step (gb18030_unit index ranges) a.mode a.front.now a.last c.cut.result 2 c.cut.ensures
    (digit_at_end index ranges a.mode a.front.now begins c.if-front-lt3.true)
    (digit_undecided index ranges a.mode a.front.now begins c.if-front-lt3.true)

pub returns-then-not-is_lead : goal.returns-then-not-is_lead
returns-then-not-is_lead g c =
    let a = c.args in
    let index = g.L.Lookup.places a.self.now.index.now in
    let ranges = g.R.Lookup.places a.self.now.ranges.now in
    let begins : BeginsFour a.front.now = record { two = c.requires.two; lead = c.requires.lead; digit = c.requires.digit } in
    decided_step (gb18030_unit index ranges) a.mode a.front.now a.last c.malformed.result (malformed_at a.mode 1) c.malformed.ensures
    (λ more are. no_third_front index ranges a.mode a.front.now more begins (omega arith) (sym c.is_lead.ensures ∙ c.if-not-is_lead.true))

pub returns-then-front-lt4 : goal.returns-then-front-lt4
returns-then-front-lt4 g c =
    let a = c.args in
    let index = g.L.Lookup.places a.self.now.index.now in
    let ranges = g.R.Lookup.places a.self.now.ranges.now in
    let begins : BeginsFour a.front.now = record { two = c.requires.two; lead = c.requires.lead; digit = c.requires.digit } in
    let three : 3 ≤ length a.front.now = omega arith in
    let third : is_gb18030_lead (get_or a.front.now 2 0) ≡ true = sym c.is_lead.ensures ∙ c.if-not-is_lead.false in
    cut_step (gb18030_unit index ranges) a.mode a.front.now a.last c.cut-then-front-lt4.result 3 c.cut-then-front-lt4.ensures
    (third_at_end index ranges a.mode a.front.now begins three c.if-front-lt4.true third)
    (third_undecided index ranges a.mode a.front.now begins three c.if-front-lt4.true third)

pub returns-then-not-is_digit : goal.returns-then-not-is_digit
returns-then-not-is_digit g c =
    let a = c.args in
    let index = g.L.Lookup.places a.self.now.index.now in
    let ranges = g.R.Lookup.places a.self.now.ranges.now in
    let begins : BeginsFour a.front.now = record { two = c.requires.two; lead = c.requires.lead; digit = c.requires.digit } in
    decided_step (gb18030_unit index ranges) a.mode a.front.now a.last c.malformed-then-not-is_digit.result (malformed_at a.mode 1) c.malformed-then-not-is_digit.ensures
    (λ more are. no_fourth_front index ranges a.mode a.front.now more begins (omega arith) (sym c.is_lead.ensures ∙ c.if-not-is_lead.false) (sym c.is_digit.ensures ∙ c.if-not-is_digit.true))

pub returns : goal.returns
returns g c =
    let a = c.args in
    let index = g.L.Lookup.places a.self.now.index.now in
    let ranges = g.R.Lookup.places a.self.now.ranges.now in
    let begins : BeginsFour a.front.now = record { two = c.requires.two; lead = c.requires.lead; digit = c.requires.digit } in
    decided_step (gb18030_unit index ranges) a.mode a.front.now a.last c.whole.result (whole_unit a.mode c.at.result 4) c.whole.ensures
    (λ more are.
    four_front index ranges a.mode a.front.now more begins (omega arith) (sym c.is_lead.ensures ∙ c.if-not-is_lead.false) (sym c.is_digit.ensures ∙ c.if-not-is_digit.false)
    ∙ ap (λ o. whole_unit a.mode o 4) (ap (λ place. ranges place) (sym c.ranges_place-place.ensures) ∙ sym c.at.ensures))
