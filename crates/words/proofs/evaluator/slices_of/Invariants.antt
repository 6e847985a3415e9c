use Rattle.std.proofs.Common.{◌≡◌, map, take}
use Rattle.words.specs.Parsed.{parsed_of, sliced_of}
use Rattle.words.proofs.evaluator.slices_of.Given as goal

abbrev pub invariant-loop-part : goal.invariant-loop-part
invariant-loop-part l = map sliced_of l.slices.items ≡ map parsed_of (take l.part-index l.parsed)
