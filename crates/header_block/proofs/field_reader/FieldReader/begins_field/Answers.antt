use Rattle.std.proofs.Common.{arith, ◌∙◌, sym, ap, take, drop, length-take-le}
use Rattle.header_block.specs.Fields.{is_wsp}
use Rattle.header_block.proofs.ViewLemmas.{begins_at, drop_rest, goes_wsp, not_false, not_true}
use Rattle.header_block.proofs.field_reader.FieldReader.begins_field.Goals as goal

pub returns-clause-whole : goal.returns-clause-whole
returns-clause-whole g c =
    let self = c.args.self.now in
    λ e. (
      omega (arith, length-take-le self.line_start self.text.items self.line_within, c.if-self-eq0.false),
      drop_rest self.line_start self.text.items (omega (arith, c.if-self-len.false, c.len.ensures)),
      begins_at self.start self.end self.piece.items c.index.result.now c.requires ∙ ap is_wsp (sym c.index.ensures) ∙ sym c.is_wsp.ensures ∙ not_true c.is_wsp.result e,
    )

pub returns-clause-goes_on : goal.returns-clause-goes_on
returns-clause-goes_on g c =
    let self = c.args.self.now in
    λ e. goes_wsp (take self.line_start self.text.items) (drop self.line_start self.text.items) (drop self.start (take self.end self.piece.items))
    (drop_rest self.line_start self.text.items (omega (arith, c.if-self-len.false, c.len.ensures)))
    (begins_at self.start self.end self.piece.items c.index.result.now c.requires ∙ ap is_wsp (sym c.index.ensures) ∙ sym c.is_wsp.ensures ∙ not_false c.is_wsp.result e)
