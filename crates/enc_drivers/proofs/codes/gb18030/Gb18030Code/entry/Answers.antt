use Rattle.std.proofs.Common.{sym, ◌∙◌}
use Rattle.enc_drivers.proofs.Gb18030Steps.{two_reads}
use Rattle.enc_drivers.proofs.codes.gb18030.Gb18030Code.entry.Goals as goal

pub returns : goal.returns
returns g c = λ some.
    let found = c.two_byte_entry.ensures some in
    record {
      code = found.code;
      small = found.small;
      entry = found.entry;
      reads = two_reads (g.L.Lookup.places c.args.self.now.index.now) (g.R.Lookup.places c.args.self.now.ranges.now) c.args.first c.args.second found.code
          (sym c.is_lead.ensures ∙ c.if-not-is_lead.false) (sym c.is_digit.ensures ∙ c.if-is_digit.false) found.is;
    }
