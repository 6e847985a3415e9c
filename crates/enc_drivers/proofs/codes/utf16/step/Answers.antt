use Rattle.std.proofs.Common.{◌≡◌, ◌≤◌, true, false, length, sym, ap, ◌∙◌, arith}
use Rattle.enc_handles.specs.Utf16.{is_lead, is_trail, pair_scalar}
use Rattle.enc_drivers.specs.declared.unit.Item.TheVariants.{One}
use Rattle.enc_drivers.specs.declared.code.Step.TheVariants as step
use Rattle.enc_drivers.specs.Units.{scalar_at, malformed_at}
use Rattle.enc_drivers.specs.Codes.Utf16.{single_unit, utf16_unit}
use Rattle.enc_drivers.proofs.StepLemmas.{decided_step, cut_step}
use Rattle.enc_drivers.proofs.Utf16Steps.{one_at_end, one_undecided, single_front, lead_at_end, lead_undecided, lead_front, pair_front}
use Rattle.enc_drivers.proofs.codes.utf16.step.Goals as goal

pub returns-then-front-lt2 : goal.returns-then-front-lt2
returns-then-front-lt2 c =
    let a = c.args in
    cut_step (utf16_unit a.big) a.mode a.front.now a.last c.cut.result 1 c.cut.ensures
    (one_at_end a.big a.mode a.front.now c.requires.some c.if-front-lt2.true)
    (one_undecided a.big a.mode a.front.now c.requires.some c.if-front-lt2.true)

pub returns-then-not-is_lead : goal.returns-then-not-is_lead
returns-then-not-is_lead c =
    let a = c.args in
    let first = c.code_unit-first.result in
    let no_lead : is_lead first ≡ false = sym c.is_lead.ensures ∙ c.if-not-is_lead.true in
    decided_step (utf16_unit a.big) a.mode a.front.now a.last c.single.result (single_unit a.mode first) c.single.ensures
    (λ more are. single_front a.big a.mode a.front.now more first (omega arith) c.code_unit-first.ensures no_lead)

pub returns-then-front-lt4 : goal.returns-then-front-lt4
returns-then-front-lt4 c =
    let a = c.args in
    let first = c.code_unit-first.result in
    let lead : is_lead first ≡ true = sym c.is_lead.ensures ∙ c.if-not-is_lead.false in
    let two : 2 ≤ length a.front.now = omega arith in
    cut_step (utf16_unit a.big) a.mode a.front.now a.last c.cut-then-front-lt4.result (length a.front.now) c.cut-then-front-lt4.ensures
    (lead_at_end a.big a.mode a.front.now first two c.if-front-lt4.true c.code_unit-first.ensures lead)
    (lead_undecided a.big a.mode a.front.now first two c.if-front-lt4.true c.code_unit-first.ensures lead)

pub returns-then-not-is_trail : goal.returns-then-not-is_trail
returns-then-not-is_trail c =
    let a = c.args in
    let first = c.code_unit-first.result in
    let second = c.code_unit-second.result in
    let lead : is_lead first ≡ true = sym c.is_lead.ensures ∙ c.if-not-is_lead.false in
    let no_trail : is_trail second ≡ false = sym c.is_trail.ensures ∙ c.if-not-is_trail.true in
    decided_step (utf16_unit a.big) a.mode a.front.now a.last c.malformed.result (malformed_at a.mode 2) c.malformed.ensures
    (λ more are. lead_front a.big a.mode a.front.now more first second (omega arith) c.code_unit-first.ensures c.code_unit-second.ensures lead no_trail)

pub returns : goal.returns
returns c =
    let a = c.args in
    let first = c.code_unit-first.result in
    let second = c.code_unit-second.result in
    let lead : is_lead first ≡ true = sym c.is_lead.ensures ∙ c.if-not-is_lead.false in
    let trail : is_trail second ≡ true = sym c.is_trail.ensures ∙ c.if-not-is_trail.false in
    let is : step.Unit (One c.pair_scalar.result) 4 a.mode ≡ step.Unit (One (pair_scalar first second)) 4 a.mode = ap (λ s. step.Unit (One s) 4 a.mode) c.pair_scalar.ensures.value in
    decided_step (utf16_unit a.big) a.mode a.front.now a.last (step.Unit (One c.pair_scalar.result) 4 a.mode) (scalar_at a.mode (pair_scalar first second) 4) is
    (λ more are. pair_front a.big a.mode a.front.now more first second (omega arith) c.code_unit-first.ensures c.code_unit-second.ensures lead trail)
