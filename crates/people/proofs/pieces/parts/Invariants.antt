use Rattle.std.proofs.Common.{◌≡◌, ◌++◌, length, map}
use Rattle.enc_front.specs.Indexes.{indexes_of}
use Rattle.people.specs.Parts.{people_syntax, reading}
use Rattle.people.specs.Slices.{seen_part, given_part}
use Rattle.people.proofs.FirstWords.{parts_after}
use Rattle.people.proofs.pieces.parts.Given as goal

-- the parts so far, and those of what is left, are those of the value
abbrev pub invariant-loop-octets : goal.invariant-loop-octets
invariant-loop-octets l =
    map given_part l.parts.items ++ map seen_part (parts_after (people_syntax (indexes_of l.tables)) l.after_word l.rest) ≡ map seen_part (reading (indexes_of l.tables) l.bytes)

abbrev pub decreases-loop-octets : goal.decreases-loop-octets
decreases-loop-octets l = length l.rest
