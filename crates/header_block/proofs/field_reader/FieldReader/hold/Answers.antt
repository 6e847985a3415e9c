use Rattle.std.proofs.Common.{rules, arith, ◌≡◌, ◌-◌, ◌∙◌, true, refl, sym, ap, ◌++◌, length, take, drop, length-take, length-drop, length-take-le}
use Rattle.std.specs.Result.{is_ok}
use Rattle.std.proofs.lemmas.List.{drop-drop, take_rest}
use Rattle.header_block.specs.Kept.{goes_with}
use Rattle.header_block.specs.Lines.{without_last_cr}
use Rattle.header_block.proofs.ViewLemmas.{Held, bytes_held, extended, same_kept, slice_waits}
use Rattle.header_block.proofs.field_reader.FieldReader.hold.Goals as goal

pub returns-then-self-line_len-gt-LONGEST-clause-long :
    goal.returns-then-self-line_len-gt-LONGEST-clause-long
returns-then-self-line_len-gt-LONGEST-clause-long g c =
    let self = c.args.self.now in
    let ok : is_ok c.extend_from_slice.result ≡ true = search rules in
    let grown : c.extend_from_slice.new.self.items ≡ self.text.items ++ take c.args.count (drop self.start (take self.end self.piece.items)) =
    extended (is_ok c.extend_from_slice.result) self.text.items (take c.args.count (take (self.end - self.start) (drop self.start c.deref.result.now))) c.extend_from_slice.new.self.items ok c.extend_from_slice.ensures.items
    ∙ ap (λ l. self.text.items ++ take c.args.count l) (ap (λ l. take (self.end - self.start) (drop self.start l)) c.deref.ensures.value ∙ slice_waits self.start self.end self.piece.items self.start_within) in
    let now : Held self.line_start self.text.items (take c.args.count (drop self.start (take self.end self.piece.items))) c.extend_from_slice.new.self.items =
    bytes_held self.line_start self.text.items (take c.args.count (drop self.start (take self.end self.piece.items))) c.extend_from_slice.new.self.items grown self.line_within self.no_lf c.requires.before in
    let len : c.content_len-line_len.result ≡ length (without_last_cr (drop self.line_start self.text.items ++ take c.args.count (drop self.start (take self.end self.piece.items)))) =
    c.content_len-line_len.ensures.len ∙ ap (λ l. length (without_last_cr l)) (take_rest c.deref-2.result.now self.line_start ∙ ap (drop self.line_start) c.deref-2.ensures.value ∙ now.line) in
    λ _. (
      same_kept _ _ _ _ _ _ _ refl c.clear.ensures.items (sym (drop-drop c.args.count self.start (take self.end self.piece.items))),
      omega (arith, c.if-self-line_len-gt-LONGEST.true, len, length-take-le self.line_start self.text.items self.line_within),
    )

pub invariant_of-self-else-self-line_len-gt-LONGEST :
    goal.invariant_of-self-else-self-line_len-gt-LONGEST
invariant_of-self-else-self-line_len-gt-LONGEST g c =
    let self = c.args.self.now in
    let ok : is_ok c.extend_from_slice.result ≡ true = search rules in
    let grown : c.extend_from_slice.new.self.items ≡ self.text.items ++ take c.args.count (drop self.start (take self.end self.piece.items)) =
    extended (is_ok c.extend_from_slice.result) self.text.items (take c.args.count (take (self.end - self.start) (drop self.start c.deref.result.now))) c.extend_from_slice.new.self.items ok c.extend_from_slice.ensures.items
    ∙ ap (λ l. self.text.items ++ take c.args.count l) (ap (λ l. take (self.end - self.start) (drop self.start l)) c.deref.ensures.value ∙ slice_waits self.start self.end self.piece.items self.start_within) in
    let now : Held self.line_start self.text.items (take c.args.count (drop self.start (take self.end self.piece.items))) c.extend_from_slice.new.self.items =
    bytes_held self.line_start self.text.items (take c.args.count (drop self.start (take self.end self.piece.items))) c.extend_from_slice.new.self.items grown self.line_within self.no_lf c.requires.before in
    let len : c.content_len-line_len.result ≡ length (without_last_cr (drop self.line_start self.text.items ++ take c.args.count (drop self.start (take self.end self.piece.items)))) =
    c.content_len-line_len.ensures.len ∙ ap (λ l. length (without_last_cr l)) (take_rest c.deref-2.result.now self.line_start ∙ ap (drop self.line_start) c.deref-2.ensures.value ∙ now.line) in
    record {
      start_within = omega (arith, c.requires.within, self.start_within, length-drop self.start (take self.end self.piece.items), length-take self.end self.piece.items);
      end_within = self.end_within;
      room = self.room;
      line_within = now.within;
      no_lf = now.no_lf;
      continued = ap (λ f. goes_with f (drop self.line_start c.extend_from_slice.new.self.items)) now.field ∙ ap (goes_with (take self.line_start self.text.items)) now.line ∙ c.requires.goes_on;
      few = omega (arith, c.if-self-line_len-gt-LONGEST.false, len, ap (λ l. length (without_last_cr l)) now.line);
    }

pub returns-clause-held : goal.returns-clause-held
returns-clause-held g c =
    let self = c.args.self.now in
    let ok : is_ok c.extend_from_slice.result ≡ true = search rules in
    let grown : c.extend_from_slice.new.self.items ≡ self.text.items ++ take c.args.count (drop self.start (take self.end self.piece.items)) =
    extended (is_ok c.extend_from_slice.result) self.text.items (take c.args.count (take (self.end - self.start) (drop self.start c.deref.result.now))) c.extend_from_slice.new.self.items ok c.extend_from_slice.ensures.items
    ∙ ap (λ l. self.text.items ++ take c.args.count l) (ap (λ l. take (self.end - self.start) (drop self.start l)) c.deref.ensures.value ∙ slice_waits self.start self.end self.piece.items self.start_within) in
    let now : Held self.line_start self.text.items (take c.args.count (drop self.start (take self.end self.piece.items))) c.extend_from_slice.new.self.items =
    bytes_held self.line_start self.text.items (take c.args.count (drop self.start (take self.end self.piece.items))) c.extend_from_slice.new.self.items grown self.line_within self.no_lf c.requires.before in
    same_kept _ _ _ _ _ _ _ now.field now.line (sym (drop-drop c.args.count self.start (take self.end self.piece.items)))
