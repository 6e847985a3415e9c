-- The encoded words that people are shown the text of: RFC 2047, sections 2, 4 and 6.2.
use Rattle.std.specs.Prelude.{ℕ, Bool, true, false, not, ◌||◌, ◌&&◌, ◌==◌, nat_le, nat_lt}
use Rattle.std.specs.Prelude.{if◌then◌else◌, Option, Some, None, List, length, drop}
use Rattle.std.specs.Prelude.{option_and_then}
use Rattle.std.specs.List.{list_all}
use Rattle.std.specs.Option.{option_map, option_map_or, option_or}
use Rattle.enc_front.specs.declared.encoding.Encoding.{Encoding}
use Rattle.enc_front.specs.declared.encoding.Encoding.TheVariants.{Utf8, Utf16Be, Utf16Le}
use Rattle.enc_front.specs.Indexes.{Indexes}
use Rattle.enc_front.specs.Marks.{mark}
use Rattle.people.specs.BText.{b_octets}
use Rattle.people.specs.Frame.{Frame, frame_spelling, is_b, frame_at}
use Rattle.people.specs.Names.{named}
use Rattle.people.specs.QText.{q_octets}

-- a word: the encoding of its text, the octets of the text, and how the word is spelled
pub record Word : Type 0 where
  pub encoding : Encoding
  pub octets : List ℕ
  pub spelling : List ℕ

-- the octets of a frame's text, a byte order mark among them: RFC 2047, section 4
abbrev pub frame_octets : Frame → List ℕ
frame_octets f = if is_b f.letter then b_octets f.text else q_octets f.text

-- plain ASCII without `+` and `~`, which is the same in nearly every charset of mail
abbrev pub is_plain : ℕ → Bool
is_plain b = nat_le 32 b && (nat_le b 125 && not (b == 43))

-- the encoding of a word's octets: the one that its charset field names, or UTF-8 where it names
-- none and the octets are plain; RFC 2047, section 6.2, lets a word of a charset that isn't known
-- stay as it is spelled
abbrev pub octets_encoding : Option Encoding → List ℕ → Option Encoding
octets_encoding charset octets = option_or charset
    (if list_all is_plain octets then Some Utf8 else None)

abbrev pub is_utf_8 : Encoding → Bool
is_utf_8 Utf8 = true
is_utf_8 _ = false

abbrev pub is_utf_16 : Encoding → Bool
is_utf_16 Utf16Be = true
is_utf_16 Utf16Le = true
is_utf_16 _ = false

-- a byte order mark isn't against the charset: both are UTF-8, or both are UTF-16 in some byte order
abbrev pub agrees : Encoding → Encoding → Bool
agrees charset marked = (is_utf_8 charset && is_utf_8 marked)
    || (is_utf_16 charset && is_utf_16 marked)

-- an encoding and octets, with a mark taken that isn't against the encoding
abbrev pub unmarked : Encoding → List ℕ → Encoding × List ℕ
unmarked charset octets = option_map_or
    (λ m. if agrees charset m.0 then (m.0, drop m.1 octets) else (charset, octets)) (mark octets)
    (charset, octets)

-- a text that isn't empty gives no octet
abbrev pub gives_nothing : List ℕ → List ℕ → Bool
gives_nothing text octets = nat_lt 0 (length text) && length octets == 0

-- the encoding of a word's text and the octets of it, where the word can be read
unfoldable pub resolved : Option Encoding → List ℕ → List ℕ → Option (Encoding × List ℕ)
resolved charset text octets = if gives_nothing text octets then None
    else option_map (λ encoding. unmarked encoding octets) (octets_encoding charset octets)

-- the word that a frame is, where it can be read; else it stays as it is spelled
abbrev pub word_of : Indexes → Frame → Option Word
word_of indexes f = option_map
    (λ r. record { encoding = r.0; octets = r.1; spelling = frame_spelling f })
    (resolved (named f.charset indexes) f.text (frame_octets f))

-- the word that begins a list, if one does
unfoldable pub word_at : Indexes → List ℕ → Option Word
word_at indexes s = option_and_then (λ found. word_of indexes found.0) (frame_at s)
