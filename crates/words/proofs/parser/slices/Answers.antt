use Rattle.std.proofs.Common.{All, List, [], ◌∷◌, map, sym, ap, ◌∙◌, subst}
use Rattle.std.proofs.lemmas.List.{map-append}
use Rattle.std.proofs.lemmas.List.Elements.{All-push}
use Rattle.enc_front.specs.Indexes.{Indexes, indexes_of}
use Rattle.words.specs.Reading.{Part}
use Rattle.words.specs.Lexer.{token_part}
use Rattle.words.specs.Joined.{before_list, one_element}
use Rattle.words.specs.Parsed.{Parsed, sliced_of, parsed_part, parsed_parts, IsKnownSlice}
use Rattle.words.proofs.Parsing.{list-turn}
use Rattle.words.proofs.parser.slices.Goals as goal

pub loop-token-preserved : goal.loop-token-preserved
loop-token-preserved c =
    let indexes : Indexes = indexes_of c.args.tables.now in
    let left : List Part = map token_part c.next.new.self.rest.items in
    let front : List Parsed = map sliced_of c.loop-token.parsed.items in
    record {
      whole =
          ap (λ z. before_list (map sliced_of z) (parsed_parts indexes left)) c.in_ok-push.ensures.items ∙
          (ap (λ z. before_list z (parsed_parts indexes left)) (map-append sliced_of c.loop-token.parsed.items (c.in_ok-word.word ∷ [])) ∙
          (sym (list-turn front (one_element (parsed_part indexes (token_part c.in-Some.token))) (sliced_of c.in_ok-word.word ∷ []) (parsed_parts indexes left) (ap one_element c.in_ok-word.ensures.parsed)) ∙
          (ap (λ z. before_list front (parsed_parts indexes (map token_part z))) (sym c.in-Some.ensures.steps.0) ∙ c.loop-token.invariant.whole)));
      all_known = subst (All (IsKnownSlice indexes)) (sym c.in_ok-push.ensures.items)
          (All-push (IsKnownSlice indexes) c.loop-token.parsed.items c.in_ok-word.word c.loop-token.invariant.all_known c.in_ok-word.ensures.known);
      is = c.in_ok-word.ensures.is;
    }
