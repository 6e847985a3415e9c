-- Quoted-printable text, and the lines it is cut into (RFC 2045 section 6.7).
use Rattle.std.specs.Prelude.{ℕ, ◌-◌, Bool, ◌==◌, ◌||◌, ◌&&◌, nat_le, List, length, filter, take}
use Rattle.std.specs.List.{slice_split, suffix_len}

-- an octet that may stand in quoted-printable text: tab, LF, CR and 20 to 7E (RFC 2045 6.7, rules 1
-- to 4)
abbrev pub is_text_octet : ℕ → Bool
is_text_octet b = (b == 9) || (b == 10) || (b == 13) || (nat_le 32 b && nat_le b 126)

-- the text of an input: the octets that may stand there, in order; a robust reader drops the others
-- (RFC 2045 6.7, the NOTE on illegal substrings, case 4)
unfoldable pub kept : List ℕ → List ℕ
kept input = filter is_text_octet input

-- tab, space and CR, which a line loses at its end: white space there was added on the way (RFC
-- 2045 6.7, rule 3), and CR belongs to the line break (rule 4)
abbrev pub is_line_padding : ℕ → Bool
is_line_padding b = (b == 9) || (b == 13) || (b == 32)

-- a line without the tabs, spaces and CRs at its end
unfoldable pub trimmed : List ℕ → List ℕ
trimmed line = take (length line - suffix_len is_line_padding line) line

-- a text cut at each LF: the lines that an LF ends, in order, and last what follows the last LF
unfoldable pub lines : List ℕ → List (List ℕ)
lines text = slice_split (λ b. b == 10) text
