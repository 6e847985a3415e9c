use Rattle.std.proofs.Common.{sym, ◌∙◌}
use Rattle.enc_drivers.proofs.PairSteps.{pair_reads}
use Rattle.enc_drivers.proofs.codes.pairs.entry.Goals as goal

pub returns : goal.returns
returns g c = λ some.
    let found = c.pair_entry.ensures some in
    record {
      code = found.code;
      small = found.small;
      entry = found.entry;
      reads = pair_reads (g.P.PairCode.pairs c.args.pairs.now) c.args.first c.args.second found.code (sym c.is_lead.ensures ∙ c.if-not-is_lead.false) found.is;
    }
