use Rattle.std.proofs.Common.{◌≡◌, true, get_or, sym, ap, ◌∙◌, arith}
use Rattle.enc_drivers.specs.Codes.Gb18030.{is_gb18030_lead}
use Rattle.enc_drivers.specs.Codes.Sequence.{sequence_unit}
use Rattle.enc_drivers.specs.Units.{scalar_at}
use Rattle.enc_drivers.proofs.Gb18030Steps.{ascii_front, two_front}
use Rattle.enc_drivers.proofs.codes.gb18030.Gb18030Code.scalar.Goals as goal

pub returns-then-first-lt128 : goal.returns-then-first-lt128
returns-then-first-lt128 g c =
    let index = g.L.Lookup.places c.args.self.now.index.now in
    let ranges = g.R.Lookup.places c.args.self.now.ranges.now in
    λ mode more are. ascii_front index ranges mode c.args.bytes.now more c.requires c.if-first-lt128.true ∙ ap (λ s. scalar_at mode s 1) (sym c.from.ensures)

pub returns-in-Some : goal.returns-in-Some
returns-in-Some g c =
    let bytes = c.args.bytes.now in
    let index = g.L.Lookup.places c.args.self.now.index.now in
    let ranges = g.R.Lookup.places c.args.self.now.ranges.now in
    let lead : is_gb18030_lead (get_or bytes 0 0) ≡ true = sym c.is_lead.ensures ∙ c.if-not-is_lead.false in
    λ mode more are.
    two_front index ranges mode bytes more (omega arith) lead (sym c.is_digit.ensures ∙ c.if-is_digit.false)
    ∙ ap (λ o. sequence_unit mode o 2 (get_or bytes 1 0)) (sym c.two_byte_scalar.ensures ∙ c.in-Some.is)
