use Rattle.std.proofs.Common.{sym, ◌∙◌}
use Rattle.enc_drivers.proofs.EucJpSteps.{row_reads}
use Rattle.enc_drivers.proofs.codes.euc_jp.EucJpCode.entry.Goals as goal

pub returns : goal.returns
returns g c = λ some.
    let found = c.row_entry.ensures some in
    record {
      code = found.code;
      small = found.small;
      entry = found.entry;
      reads = row_reads (g.L.Lookup.places c.args.self.now.jis0208.now) (g.L.Lookup.places c.args.self.now.jis0212.now) c.args.first c.args.second found.code
          (sym c.is_in_row.ensures ∙ c.if-not-is_in_row.false) found.is;
    }
