use Rattle.std.proofs.Common.{ℕ, All, List, map, sym, ap, ◌∙◌, subst}
use Rattle.std.specs.Str.{IsUtf8}
use Rattle.std.proofs.lemmas.Str.{IsUtf8-append}
use Rattle.std.proofs.lemmas.List.Elements.{All-tail}
use Rattle.enc_front.specs.Indexes.{Indexes, indexes_of}
use Rattle.words.specs.Joined.{before_list}
use Rattle.words.specs.Parsed.{Parsed, sliced_of, parsed_text, parsed_texts, IsKnownSlice}
use Rattle.words.proofs.Parsing.{list-turn}
use Rattle.words.proofs.evaluator.text_of.Goals as goal

pub loop-part-preserved : goal.loop-part-preserved
loop-part-preserved c =
    let indexes : Indexes = indexes_of c.args.tables.now in
    let left : List Parsed = map sliced_of c.next.new.self.rest.items in
    let front : List ℕ = c.loop-part.text.items in
    let call = c.in_ok-append_part.ensures.text in
    record {
      whole =
          ap (λ z. before_list z (parsed_texts indexes left)) call.joined ∙
          (sym (list-turn front (parsed_text indexes (sliced_of c.in-Some.part)) call.more (parsed_texts indexes left) call.shows) ∙
          (ap (λ z. before_list front (parsed_texts indexes (map sliced_of z))) (sym c.in-Some.ensures.steps.0) ∙ c.loop-part.invariant.whole));
      left_known = All-tail (IsKnownSlice indexes) c.in-Some.part c.next.new.self.rest.items
          (subst (All (IsKnownSlice indexes)) c.in-Some.ensures.steps.0 c.loop-part.invariant.left_known);
      utf_8 = subst IsUtf8 (sym call.joined) (IsUtf8-append front call.more c.loop-part.invariant.utf_8 call.utf_8);
    }
