use Rattle.std.proofs.Common.{arith, take, drop, length-drop, length-take, length-take-le}
use Rattle.enc_io.specs.ReaderView as reader
use Rattle.header_block.proofs.GatherLemmas.{step_whole}
use Rattle.header_block.proofs.ViewLemmas.{no_lf_field}
use Rattle.header_block.proofs.field_reader.FieldReader.step.Goals as goal

pub returns-then-begins_field : goal.returns-then-begins_field
returns-then-begins_field g c =
    let self = c.args.self.now in
    let whole = c.begins_field.ensures.whole c.if-begins_field.true in
    step_whole (reader.standing_of self.reader) (take self.line_start self.text.items) (drop self.line_start self.text.items) (drop self.start (take self.end self.piece.items)) whole.1 whole.0
    (omega (arith, c.if-self.false, self.start_within, self.end_within, length-drop self.start (take self.end self.piece.items), length-take self.end self.piece.items)) whole.2
    (no_lf_field self.line_start self.text.items self.no_lf) (omega (arith, length-take-le self.line_start self.text.items self.line_within, self.few))
