use Rattle.std.proofs.Common.{All, List, [], ◌∷◌, map, sym, ap, ◌∙◌, subst}
use Rattle.std.proofs.lemmas.List.{map-append}
use Rattle.std.proofs.lemmas.List.Elements.{All-push}
use Rattle.enc_front.specs.Indexes.{Indexes, indexes_of}
use Rattle.words.specs.Reading.{Part}
use Rattle.words.specs.Tokens.{part_of}
use Rattle.words.specs.Joined.{before_list, one_element}
use Rattle.words.specs.Parsed.{Parsed, parsed_of, parsed_part, parsed_parts, IsKnown}
use Rattle.words.proofs.Parsing.{list-turn}
use Rattle.words.proofs.parser.run.Goals as goal

pub loop-token-preserved : goal.loop-token-preserved
loop-token-preserved c =
    let indexes : Indexes = indexes_of c.args.tables.now in
    let left : List Part = map part_of c.next.new.self.rest.items in
    let front : List Parsed = map parsed_of c.loop-token.parsed.items in
    record {
      whole =
          ap (λ z. before_list (map parsed_of z) (parsed_parts indexes left)) c.in_ok-push.ensures.items ∙
          (ap (λ z. before_list z (parsed_parts indexes left)) (map-append parsed_of c.loop-token.parsed.items (c.in_ok-word.word ∷ [])) ∙
          (sym (list-turn front (one_element (parsed_part indexes (part_of c.in-Some.token))) (parsed_of c.in_ok-word.word ∷ []) (parsed_parts indexes left) (ap one_element c.in_ok-word.ensures.parsed)) ∙
          (ap (λ z. before_list front (parsed_parts indexes (map part_of z))) (sym c.in-Some.ensures.steps.0) ∙ c.loop-token.invariant.whole)));
      all_known = subst (All (IsKnown indexes)) (sym c.in_ok-push.ensures.items)
          (All-push (IsKnown indexes) c.loop-token.parsed.items c.in_ok-word.word c.loop-token.invariant.all_known c.in_ok-word.ensures.known);
    }
