use Rattle.std.proofs.Common.{rules, arith, ◌≡◌, ◌+◌, ◌-◌, ◌<◌, ◌≤◌, ◌∙◌, Ok, true, false, eqb, List, ℕ, [], ◌∷◌, ◌++◌, sym, ap, subst, length, take, drop, length-drop, length-take, length-take-le}
use Rattle.std.proofs.lemmas.List.{drop-drop}
use Rattle.enc_io.specs.ReaderView as reader
use Rattle.header_block.specs.declared.field_reader.TheConstants.{LONGEST}
use Rattle.header_block.specs.FieldView.{gathered_of}
use Rattle.header_block.specs.Gathering.{Gathered, Gathers, Steps, turns}
use Rattle.header_block.specs.Lines.{has_lf, without_last_cr}
use Rattle.header_block.proofs.LineLemmas.{has_lf-append}
use Rattle.header_block.proofs.FieldLemmas.{goes_front, goes_some}
use Rattle.header_block.proofs.GatherLemmas.{after_line, hold_stops, lf_front, line_ends, line_grows}
use Rattle.header_block.proofs.ViewLemmas.{kept, no_lf_field, no_lf_line, slice_waits, tells_empty}
use Rattle.header_block.proofs.field_reader.FieldReader.take_line.Goals as goal

pub hold-requires-clause-before : goal.hold-requires-clause-before
hold-requires-clause-before g c =
    let self = c.args.self.now in
    let bytes : take (self.end - self.start) (drop self.start c.deref.result.now) ≡ drop self.start (take self.end self.piece.items) =
    ap (λ l. take (self.end - self.start) (drop self.start l)) c.deref.ensures.value ∙ slice_waits self.start self.end self.piece.items self.start_within in
    subst (λ (l : List ℕ). has_lf (take c.line_end-count.result.0 l) ≡ false) bytes c.line_end-count.ensures.before

pub hold-requires-clause-goes_on : goal.hold-requires-clause-goes_on
hold-requires-clause-goes_on g c =
    let self = c.args.self.now in
    goes_front (take self.line_start self.text.items) (drop self.line_start self.text.items) (drop self.start (take self.end self.piece.items)) c.line_end-count.result.0 c.requires.goes_on

pub returns-in-Err : goal.returns-in-Err
returns-in-Err g c =
    let self = c.args.self.now in
    let bytes : take (self.end - self.start) (drop self.start c.deref.result.now) ≡ drop self.start (take self.end self.piece.items) =
    ap (λ l. take (self.end - self.start) (drop self.start l)) c.deref.ensures.value ∙ slice_waits self.start self.end self.piece.items self.start_within in
    let none : has_lf (take c.line_end-count.result.0 (drop self.start (take self.end self.piece.items))) ≡ false = subst (λ (l : List ℕ). has_lf (take c.line_end-count.result.0 l) ≡ false) bytes c.line_end-count.ensures.before in
    hold_stops (reader.standing_of self.reader) (take self.line_start self.text.items) (drop self.line_start self.text.items) (drop self.start (take self.end self.piece.items)) c.line_end-count.result.0 (gathered_of c.hold.new.self) c.in-Err.error
    (goes_front (take self.line_start self.text.items) (drop self.line_start self.text.items) (drop self.start (take self.end self.piece.items)) c.line_end-count.result.0 c.requires.goes_on) (no_lf_field self.line_start self.text.items self.no_lf)
    (has_lf-append (drop self.line_start self.text.items) (take c.line_end-count.result.0 (drop self.start (take self.end self.piece.items))) (no_lf_line self.line_start self.text.items self.no_lf) none)
    (omega (arith, length-take-le self.line_start self.text.items self.line_within, self.few)) c.in-Err.ensures.memory c.in-Err.ensures.long c.in-Err.ensures.errors

pub returns-then-not-whole : goal.returns-then-not-whole
returns-then-not-whole g c =
    let self = c.args.self.now in
    let bytes : take (self.end - self.start) (drop self.start c.deref.result.now) ≡ drop self.start (take self.end self.piece.items) =
    ap (λ l. take (self.end - self.start) (drop self.start l)) c.deref.ensures.value ∙ slice_waits self.start self.end self.piece.items self.start_within in
    let end : c.line_end-count.result.1 ≡ false = search rules in
    subst (λ (b : Gathered). Gathers (gathered_of self) b × (turns b < turns (gathered_of self))) (sym c.in_default.ensures.held)
    (line_grows (reader.standing_of self.reader) (take self.line_start self.text.items) (drop self.line_start self.text.items) (drop self.start (take self.end self.piece.items)) c.line_end-count.result.0 c.requires.waits (ap (drop c.line_end-count.result.0) (sym bytes) ∙ c.line_end-count.ensures.all end))

pub invariant_of-self : goal.invariant_of-self
invariant_of-self g c =
    let self = c.args.self.now in
    let bytes : take (self.end - self.start) (drop self.start c.deref.result.now) ≡ drop self.start (take self.end self.piece.items) =
    ap (λ l. take (self.end - self.start) (drop self.start l)) c.deref.ensures.value ∙ slice_waits self.start self.end self.piece.items self.start_within in
    let held = c.hold.new.self in
    let whole : c.line_end-count.result.1 ≡ true = search rules in
    let lf = ap (drop c.line_end-count.result.0) (sym bytes) ∙ c.line_end-count.ensures.lf whole in
    let some : 0 < length (drop held.start (take held.end held.piece.items)) = omega (arith, ap length lf, ap (λ (s : Gathered). length s.waiting) c.in_default.ensures.held) in
    record {
      start_within = omega (arith, some, length-drop held.start (take held.end held.piece.items), length-take held.end held.piece.items);
      end_within = held.end_within;
      room = held.room;
      line_within = held.line_within;
      no_lf = held.no_lf;
      continued = held.continued;
      few = held.few;
    }

pub returns : goal.returns
returns g c =
    let self = c.args.self.now in
    let bytes : take (self.end - self.start) (drop self.start c.deref.result.now) ≡ drop self.start (take self.end self.piece.items) =
    ap (λ l. take (self.end - self.start) (drop self.start l)) c.deref.ensures.value ∙ slice_waits self.start self.end self.piece.items self.start_within in
    let held = c.hold.new.self in
    let whole : c.line_end-count.result.1 ≡ true = search rules in
    let lf : drop c.line_end-count.result.0 (drop self.start (take self.end self.piece.items)) ≡ 10 ∷ drop 1 (drop c.line_end-count.result.0 (drop self.start (take self.end self.piece.items))) = lf_front (drop c.line_end-count.result.0 (drop self.start (take self.end self.piece.items))) _ (ap (drop c.line_end-count.result.0) (sym bytes) ∙ c.line_end-count.ensures.lf whole) in
    let is : gathered_of held ≡ kept (reader.standing_of self.reader) (take self.line_start self.text.items) ((drop self.line_start self.text.items) ++ take c.line_end-count.result.0 (drop self.start (take self.end self.piece.items))) (drop c.line_end-count.result.0 (drop self.start (take self.end self.piece.items))) = c.in_default.ensures.held in
    let then : gathered_of c.end_line.new.self ≡ kept (reader.standing_of self.reader) ((take self.line_start self.text.items) ++ without_last_cr ((drop self.line_start self.text.items) ++ take c.line_end-count.result.0 (drop self.start (take self.end self.piece.items)))) [] (drop 1 (drop c.line_end-count.result.0 (drop self.start (take self.end self.piece.items)))) =
    after_line (reader.standing_of self.reader) (take self.line_start self.text.items) ((drop self.line_start self.text.items) ++ take c.line_end-count.result.0 (drop self.start (take self.end self.piece.items))) (drop c.line_end-count.result.0 (drop self.start (take self.end self.piece.items))) (gathered_of held) (gathered_of c.end_line.new.self) is
    (c.end_line.ensures ∙ ap (kept (reader.standing_of held.reader) (take held.line_start held.text.items ++ without_last_cr (drop held.line_start held.text.items)) []) (sym (drop-drop 1 held.start (take held.end held.piece.items)))) in
    let few : length (take self.line_start self.text.items) + length (without_last_cr ((drop self.line_start self.text.items) ++ take c.line_end-count.result.0 (drop self.start (take self.end self.piece.items)))) ≤ LONGEST =
    omega (arith, length-take-le held.line_start held.text.items held.line_within, held.few, ap (λ (s : Gathered). length s.field + length (without_last_cr s.line)) is) in
    let no_line : has_lf ((drop self.line_start self.text.items) ++ take c.line_end-count.result.0 (drop self.start (take self.end self.piece.items))) ≡ false = sym (ap (λ (s : Gathered). has_lf s.line) is) ∙ no_lf_line held.line_start held.text.items held.no_lf in
    let empty = tells_empty c.end_line.new.self.line_start c.end_line.new.self.text.items c.end_line.new.self.line_within ((take self.line_start self.text.items) ++ without_last_cr ((drop self.line_start self.text.items) ++ take c.line_end-count.result.0 (drop self.start (take self.end self.piece.items)))) (ap (λ (s : Gathered). s.field) then) in
    subst (λ (b : Gathered). Steps (gathered_of self) b (Ok (eqb c.end_line.new.self.line_start 0))) (sym then)
    (line_ends (reader.standing_of self.reader) (take self.line_start self.text.items) (drop self.line_start self.text.items) (drop self.start (take self.end self.piece.items)) (drop 1 (drop c.line_end-count.result.0 (drop self.start (take self.end self.piece.items)))) c.line_end-count.result.0 (eqb c.end_line.new.self.line_start 0) lf (goes_front (take self.line_start self.text.items) (drop self.line_start self.text.items) (drop self.start (take self.end self.piece.items)) c.line_end-count.result.0 c.requires.goes_on)
    (no_lf_field self.line_start self.text.items self.no_lf) no_line (goes_some (take self.line_start self.text.items) (drop self.line_start self.text.items) (drop self.start (take self.end self.piece.items)) (drop 1 (drop c.line_end-count.result.0 (drop self.start (take self.end self.piece.items)))) c.line_end-count.result.0 c.requires.goes_on lf) few empty.0 empty.1)
