use Rattle.std.proofs.Common.{sym, ◌∙◌}
use Rattle.enc_drivers.proofs.PairSteps.{alone_scalar, both_scalar}
use Rattle.enc_drivers.proofs.codes.pairs.scalar.Goals as goal

pub returns-then-not-is_lead : goal.returns-then-not-is_lead
returns-then-not-is_lead g c =
    alone_scalar (g.P.PairCode.pairs c.args.pairs.now) c.args.bytes.now c.scalar_of.result c.alone.result c.requires
    (sym c.is_lead.ensures ∙ c.if-not-is_lead.true) c.alone.ensures c.scalar_of.ensures

pub returns : goal.returns
returns g c =
    both_scalar (g.P.PairCode.pairs c.args.pairs.now) c.args.bytes.now c.scalar_of-2.result c.both.result c.if-bytes-lt2.false
    (sym c.is_lead.ensures ∙ c.if-not-is_lead.false) c.both.ensures c.scalar_of-2.ensures
