use Rattle.std.proofs.Common.{sym, ap, ◌∙◌, get_or}
use Rattle.enc_drivers.specs.declared.unit.Item.{Item}
use Rattle.enc_drivers.specs.declared.code.Step.TheVariants as step
use Rattle.enc_drivers.specs.Codes.Pairs.{both_len, pairs_unit}
use Rattle.enc_drivers.proofs.PairSteps.{alone_front, both_front, lead_at_end, lead_undecided}
use Rattle.enc_drivers.proofs.StepLemmas.{decided_step, cut_step}
use Rattle.enc_drivers.proofs.codes.pairs.step.Goals as goal

pub returns-then-not-is_lead : goal.returns-then-not-is_lead
returns-then-not-is_lead g c =
    let pairs = g.P.PairCode.pairs c.args.pairs.now in
    decided_step (pairs_unit pairs) c.args.mode c.args.front.now c.args.last c.unit.result
    (record { item = c.alone.result; len = 1; next = c.args.mode }) c.unit.ensures
    (λ more are. alone_front pairs c.args.mode c.args.front.now more c.requires.some (sym c.is_lead.ensures ∙ c.if-not-is_lead.true)
    ∙ ap (λ (i : Item). record { item = i; len = 1; next = c.args.mode }) (sym c.alone.ensures))

pub returns-then-front-lt2 : goal.returns-then-front-lt2
returns-then-front-lt2 g c =
    let pairs = g.P.PairCode.pairs c.args.pairs.now in
    let lead = sym c.is_lead.ensures ∙ c.if-not-is_lead.false in
    cut_step (pairs_unit pairs) c.args.mode c.args.front.now c.args.last c.cut.result 1 c.cut.ensures
    (lead_at_end pairs c.args.mode c.args.front.now c.requires.some c.if-front-lt2.true lead)
    (lead_undecided pairs c.args.mode c.args.front.now c.requires.some c.if-front-lt2.true lead)

pub returns : goal.returns
returns g c =
    let pairs = g.P.PairCode.pairs c.args.pairs.now in
    let lead = sym c.is_lead.ensures ∙ c.if-not-is_lead.false in
    decided_step (pairs_unit pairs) c.args.mode c.args.front.now c.args.last c.unit-2.result
    (record { item = c.both-item.result; len = both_len c.both-item.result (get_or c.args.front.now 1 0); next = c.args.mode })
    (c.unit-2.ensures ∙ ap (λ n. step.Unit c.both-item.result n c.args.mode) c.both_len.ensures)
    (λ more are. both_front pairs c.args.mode c.args.front.now more c.if-front-lt2.false lead
    ∙ ap (λ (i : Item). record { item = i; len = both_len i (get_or c.args.front.now 1 0); next = c.args.mode }) (sym c.both-item.ensures))
