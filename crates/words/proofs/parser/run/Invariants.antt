use Rattle.std.proofs.Common.{◌≡◌, map, All}
use Rattle.enc_front.specs.Indexes.{indexes_of}
use Rattle.words.specs.Tokens.{part_of}
use Rattle.words.specs.Joined.{before_list}
use Rattle.words.specs.Parsed.{parsed_of, parsed_parts, IsKnown}
use Rattle.words.proofs.parser.run.Given as goal

-- the parsed tokens so far before those that are left
abbrev pub invariant-loop-token : goal.invariant-loop-token
invariant-loop-token l = record {
  whole : before_list (map parsed_of l.parsed.items) (parsed_parts (indexes_of l.tables) (map part_of l.token-iterator.rest.items))
      ≡ parsed_parts (indexes_of l.tables) (map part_of l.fn.tokens.items);
  all_known : All (IsKnown (indexes_of l.tables)) l.parsed.items;
}
