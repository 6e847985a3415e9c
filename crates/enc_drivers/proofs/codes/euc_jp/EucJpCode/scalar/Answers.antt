use Rattle.std.proofs.Common.{get_or, sym, ap, ◌∙◌, arith}
use Rattle.enc_drivers.specs.Codes.Sequence.{sequence_unit}
use Rattle.enc_drivers.specs.Units.{scalar_at}
use Rattle.enc_drivers.proofs.EucJpSteps.{BeginsSequence, ascii_front, two_front}
use Rattle.enc_drivers.proofs.codes.euc_jp.EucJpCode.scalar.Goals as goal

pub returns-then-lead-lt128 : goal.returns-then-lead-lt128
returns-then-lead-lt128 g c =
    let jis0208 = g.L.Lookup.places c.args.self.now.jis0208.now in
    let jis0212 = g.L.Lookup.places c.args.self.now.jis0212.now in
    λ mode more are. ascii_front jis0208 jis0212 mode c.args.bytes.now more c.requires c.if-lead-lt128.true ∙ ap (λ s. scalar_at mode s 1) (sym c.from.ensures)

pub returns-in-Some : goal.returns-in-Some
returns-in-Some g c =
    let bytes = c.args.bytes.now in
    let jis0208 = g.L.Lookup.places c.args.self.now.jis0208.now in
    let jis0212 = g.L.Lookup.places c.args.self.now.jis0212.now in
    let begins : BeginsSequence bytes = record { some = c.requires; high = c.if-lead-lt128.false; lead = sym c.is_lead.ensures ∙ c.if-not-is_lead.false } in
    λ mode more are.
    two_front jis0208 jis0212 mode bytes more begins (omega arith) (sym c.names_jis0212.ensures ∙ c.if-names_jis0212.false)
    ∙ ap (λ o. sequence_unit mode o 2 (get_or bytes 1 0)) (sym c.two_byte_scalar.ensures ∙ c.in-Some.is)
