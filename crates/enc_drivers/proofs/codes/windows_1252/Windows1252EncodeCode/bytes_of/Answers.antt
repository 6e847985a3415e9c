use Rattle.std.proofs.Common.{[], ◌∷◌, sym, ap, ◌∙◌, arith, inl, inr, ⊎_elim, Some}
use Rattle.enc_drivers.proofs.Windows1252Bytes.{ascii_byte, same_byte, table_byte, no_byte, entry, likely}
use Rattle.enc_drivers.proofs.codes.windows_1252.Windows1252EncodeCode.bytes_of.Goals as goal

pub returns-then-code-lt128 : goal.returns-then-code-lt128
returns-then-code-lt128 c =
    ap Some (c.one.ensures ∙ ap (λ b. b ∷ []) c.from-code.ensures) ∙ sym (ascii_byte c.args.scalar (omega arith))

pub returns-then-code-le255 : goal.returns-then-code-le255
returns-then-code-le255 c =
    ap Some (c.one-then-code-le255.ensures ∙ ap (λ b. b ∷ []) c.from-code.ensures)
    ∙ sym (same_byte c.args.scalar (omega arith) (omega arith))

pub returns-then-entry-scalar : goal.returns-then-entry-scalar
returns-then-entry-scalar c =
    let here = sym c.entry.ensures ∙ c.if-entry-scalar.true in
    ap Some c.one-then-entry-scalar.ensures
    ∙ sym (table_byte c.args.scalar c.likely_place-place.result (omega arith) c.likely_place-place.ensures.within here)

pub returns : goal.returns
returns c =
    let same = c.likely_place-place.ensures.value ∙ ap likely c.from-code.ensures in
    sym (no_byte c.args.scalar (omega arith) (⊎_elim (λ p. inr (omega (arith, p.1))) (λ p. inl (omega (arith, p))) c.else-code-ge160.either)
    (λ e. c.if-entry-scalar.false (c.entry.ensures ∙ ap entry same ∙ e)))
