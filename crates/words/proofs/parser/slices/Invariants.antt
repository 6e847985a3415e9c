use Rattle.std.proofs.Common.{◌≡◌, map, All}
use Rattle.enc_front.specs.Indexes.{indexes_of}
use Rattle.words.specs.Lexer.{token_part}
use Rattle.words.specs.Joined.{before_list}
use Rattle.words.specs.Parsed.{sliced_of, parsed_parts, IsCharset, IsKnownSlice}
use Rattle.words.proofs.parser.slices.Given as goal

-- the parsed tokens so far before those that are left
abbrev pub invariant-loop-token : goal.invariant-loop-token
invariant-loop-token l = record {
  whole : before_list (map sliced_of l.parsed.items) (parsed_parts (indexes_of l.tables) (map token_part l.token-iterator.rest.items))
      ≡ parsed_parts (indexes_of l.tables) (map token_part l.fn.tokens.items);
  all_known : All (IsKnownSlice (indexes_of l.tables)) l.parsed.items;
  is : IsCharset (indexes_of l.tables) l.last;
}
