use Rattle.std.proofs.Common.{arith, ◌+◌, ◌<◌, ◌≤◌, ℕ, List, Ok, sym, ap, subst, length, take, drop, length-take-le}
use Rattle.std.proofs.lemmas.List.{with_items_is}
use Rattle.enc_io.specs.ReaderView as reader
use Rattle.header_block.specs.declared.field_reader.TheConstants.{LONGEST}
use Rattle.header_block.specs.FieldView.{gathered_of}
use Rattle.header_block.specs.Gathering.{Finds, Gathers, turns}
use Rattle.header_block.specs.Lines.{without_last_cr}
use Rattle.header_block.proofs.GatherLemmas.{fill_end, fill_fault, fill_limit, fill_read}
use Rattle.header_block.proofs.ViewLemmas.{kept, no_lf_field, no_lf_line}
use Rattle.header_block.proofs.field_reader.FieldReader.fill.Goals as goal

pub returns-in-Ok-eq0 : goal.returns-in-Ok-eq0
returns-in-Ok-eq0 g c =
    let self = c.args.self.now in
    let room : 0 < length c.deref_mut.result.now = omega (arith, self.room, ap length c.deref_mut.ensures.value) in
    let few : length (take self.line_start self.text.items) + length (without_last_cr (drop self.line_start self.text.items)) ≤ LONGEST =
    omega (arith, length-take-le self.line_start self.text.items self.line_within, self.few) in
    let goes = (rw c.in-Ok-eq0.field-0-test at c.in-Ok-eq0.ensures.does) room in
    let given = c.in-Ok-eq0.ensures.end room (ap Ok c.in-Ok-eq0.field-0-test) in
    subst (Finds (gathered_of self)) (sym c.end_line.ensures)
    (fill_end (reader.standing_of self.reader) (reader.standing_of c.read.new.self) (take self.line_start self.text.items) (drop self.line_start self.text.items) (drop self.start (take self.end self.piece.items))
    c.requires goes c.in-Ok-eq0.ensures.left given self.continued (no_lf_field self.line_start self.text.items self.no_lf) (no_lf_line self.line_start self.text.items self.no_lf) few)

pub returns-in-Ok : goal.returns-in-Ok
returns-in-Ok g c =
    let self = c.args.self.now in
    let room : 0 < length c.deref_mut.result.now = omega (arith, self.room, ap length c.deref_mut.ensures.value) in
    let writes = with_items_is self.piece c.read.new.buf (omega (arith, c.in-Ok.ensures.len, c.deref_mut.ensures.len, self.piece.ok.0)) in
    let before = gathered_of self in
    subst (λ (w : List ℕ). Gathers (gathered_of self) (kept (reader.standing_of c.read.new.self) (take self.line_start self.text.items) (drop self.line_start self.text.items) w)
    × (turns (kept (reader.standing_of c.read.new.self) (take self.line_start self.text.items) (drop self.line_start self.text.items) w) < turns (gathered_of self)))
    (sym (ap (take c.in-Ok.count) writes))
    (fill_read (reader.standing_of self.reader) (reader.standing_of c.read.new.self) (take self.line_start self.text.items) (drop self.line_start self.text.items) (drop self.start (take self.end self.piece.items))
    (take c.in-Ok.count c.read.new.buf) c.requires (c.in-Ok.ensures.does room) c.in-Ok.ensures.left (omega (arith, c.in-Ok.count-test.1, c.in-Ok.ensures.within.0, length-take-le c.in-Ok.count c.read.new.buf c.in-Ok.ensures.within.0)))

pub returns-in-Err-ReadFault : goal.returns-in-Err-ReadFault
returns-in-Err-ReadFault g c =
    let self = c.args.self.now in
    let room : 0 < length c.deref_mut.result.now = omega (arith, self.room, ap length c.deref_mut.ensures.value) in
    let few : length (take self.line_start self.text.items) + length (without_last_cr (drop self.line_start self.text.items)) ≤ LONGEST =
    omega (arith, length-take-le self.line_start self.text.items self.line_within, self.few) in
    fill_fault (reader.standing_of self.reader) (reader.standing_of c.read.new.self) (take self.line_start self.text.items) (drop self.line_start self.text.items) (drop self.start (take self.end self.piece.items))
    c.requires ((rw c.in-Err-ReadFault.field-0-is at c.in-Err-ReadFault.ensures.does) room) c.in-Err-ReadFault.ensures.left self.continued
    (no_lf_field self.line_start self.text.items self.no_lf) (no_lf_line self.line_start self.text.items self.no_lf) few

pub returns-in-Err-TooMuch : goal.returns-in-Err-TooMuch
returns-in-Err-TooMuch g c =
    let self = c.args.self.now in
    let room : 0 < length c.deref_mut.result.now = omega (arith, self.room, ap length c.deref_mut.ensures.value) in
    fill_limit (reader.standing_of self.reader) (reader.standing_of c.read.new.self) (take self.line_start self.text.items) (drop self.line_start self.text.items) (drop self.start (take self.end self.piece.items))
    c.requires ((rw c.in-Err-TooMuch.field-0-is at c.in-Err-TooMuch.ensures.does) room) c.in-Err-TooMuch.ensures.left
