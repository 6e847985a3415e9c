-- The encodings that the charset fields of encoded words name: RFC 2047, section 2, RFC 2231,
-- section 5, and the Encoding Standard, section 4.2.
use Rattle.std.specs.Prelude.{ℕ, ◌==◌, if◌then◌else◌, List, map, Option, Some, None}
use Rattle.std.specs.Prelude.{option_and_then}
use Rattle.std.specs.List.{before_first}
use Rattle.std.specs.Option.{option_or}
use Rattle.enc_front.specs.declared.encoding.Encoding.{Encoding}
use Rattle.enc_front.specs.Encoding.{label, Labels, find_label, trimmed_label}
use Rattle.enc_front.specs.Indexes.{Indexes, known}
use Rattle.people.specs.declared.names.TheConstants.{OTHER_NAMES}

-- names that are no labels of the standard, but that mailers and users write
unfoldable pub other_names : Labels
other_names = map (λ row. (row.0.now, row.1)) OTHER_NAMES

-- the encoding that a name means: the standard's label where it has one, else one of the other
-- names, without white space at the ends and in any ASCII case
unfoldable pub people_label : List ℕ → Option Encoding
people_label name = option_or (label name) (find_label other_names (trimmed_label name))

-- the name in front of the first `*`; what follows is a language, which is read over (RFC 2231,
-- section 5)
abbrev pub without_language : List ℕ → List ℕ
without_language field = before_first (λ b. b == 42) field

-- the encoding that a charset field names, where it is known
unfoldable pub named : List ℕ → Indexes → Option Encoding
named field indexes = option_and_then
    (λ encoding. if known encoding indexes then Some encoding else None)
    (people_label (without_language field))
