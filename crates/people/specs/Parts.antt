-- The reading of a header's value for people: RFC 2047, section 6.2.
use Rattle.std.specs.Prelude.{ℕ, List}
use Rattle.enc_front.specs.Indexes.{Indexes}
use Rattle.people.specs.Reading.{Syntax, Part, reading_of}
use Rattle.people.specs.Unfolded.{is_blank}
use Rattle.people.specs.Word.{Word, word_at}

-- encoded words, and gaps of spaces and tabs: white space between neighbouring words isn't shown,
-- all other is; an LF that is no fold ends a value, and so stays
abbrev pub people_syntax : Indexes → Syntax Word
people_syntax indexes = record {
  word_at = word_at indexes;
  spelling = λ w. w.spelling;
  is_gap_byte = is_blank;
}

-- the reading of a value
abbrev pub reading : Indexes → List ℕ → List (Part Word)
reading indexes s = reading_of (people_syntax indexes) s
