use Rattle.std.proofs.Common.{◌≡◌, map, All}
use Rattle.std.specs.Str.{IsUtf8}
use Rattle.enc_front.specs.Indexes.{indexes_of}
use Rattle.words.specs.Joined.{before_list}
use Rattle.words.specs.Parsed.{sliced_of, parsed_texts, IsKnownSlice}
use Rattle.words.proofs.evaluator.text_of.Given as goal

-- the text so far before the texts of the parts that are left
abbrev pub invariant-loop-part : goal.invariant-loop-part
invariant-loop-part l = record {
  whole : before_list l.text.items (parsed_texts (indexes_of l.tables) (map sliced_of l.part-iterator.rest.items))
      ≡ parsed_texts (indexes_of l.tables) (map sliced_of l.fn.parsed.items);
  left_known : All (IsKnownSlice (indexes_of l.tables)) l.part-iterator.rest.items;
  utf_8 : IsUtf8 l.text.items;
}
