-- The frame of an encoded word: RFC 2047, section 2, widened.
use Rattle.std.specs.Prelude.{ℕ, Bool, false, not, ◌||◌, ◌&&◌, ◌==◌, nat_le, nat_lt}
use Rattle.std.specs.Prelude.{if◌then◌else◌, Option, Some, None, List, [], ◌∷◌, ◌++◌, length, drop}
use Rattle.std.specs.Prelude.{codes, option_and_then}
use Rattle.std.specs.List.{list_any, list_all, before_first, after_first}
use Rattle.std.specs.Option.{option_map}

-- what a word is spelled of: its charset field, the letter of its encoding, and its text
pub record Frame : Type 0 where
  pub charset : List ℕ
  pub letter : ℕ
  pub text : List ℕ

-- a word as it stands in a header: RFC 2047, section 2, `encoded-word`
abbrev pub frame_spelling : Frame → List ℕ
frame_spelling f = codes "=?" ++ f.charset ++ codes "?" ++ f.letter ∷ [] ++ codes "?" ++ f.text
    ++ codes "?="

-- a letter, a digit, or one of `-`, `_`, `.`, `:`, `+` and `*`: RFC 2047, section 2, `token`,
-- narrowed to what charsets are named by, and widened by `.` and `:`, which labels have
abbrev pub is_charset_byte : ℕ → Bool
is_charset_byte b =
    (nat_le 65 b && nat_le b 90) || (nat_le 97 b && nat_le b 122) || (nat_le 48 b && nat_le b 57)
    || list_any (λ e. e == b) (codes "-_.:+*")

abbrev pub is_charset : List ℕ → Bool
is_charset field = nat_lt 0 (length field) && list_all is_charset_byte field

-- b, B, q or Q: RFC 2047, sections 2 and 4
abbrev pub is_b : ℕ → Bool
is_b b = b == 98 || b == 66

abbrev pub is_q : ℕ → Bool
is_q b = b == 113 || b == 81

abbrev pub is_question_mark : ℕ → Bool
is_question_mark b = b == 63

-- a list begins with this byte
abbrev pub begins_in : ℕ → List ℕ → Bool
begins_in c [] = false
begins_in c (b ∷ rest) = b == c

-- `=?` stands in a list
abbrev pub has_start : List ℕ → Bool
has_start [] = false
has_start (b ∷ rest) = (b == 61 && begins_in 63 rest) || has_start rest

-- a text of a word: no CR, no LF and no `=?`, else any bytes; it may be empty and hold blanks and
-- single question marks, as RFC 2047's may not
abbrev pub is_text : List ℕ → Bool
is_text text = list_all (λ b. not (b == 13 || b == 10)) text && not (has_start text)

-- a list in two: what stands before a place, and what stands behind what ends there
abbrev pub Cut : Type 0
Cut = List ℕ × List ℕ

-- a list cut at its first `?=`
abbrev pub cut_at_end : List ℕ → Option Cut
cut_at_end [] = None
cut_at_end (b ∷ rest) = if b == 63 && begins_in 61 rest then Some ([], drop 1 rest)
    else option_map (λ cut. (b ∷ cut.0, cut.1)) (cut_at_end rest)

-- the text in front of the first `?=`, and what stands behind that
unfoldable pub cut_text : List ℕ → Option Cut
cut_text s = option_and_then (λ cut. if is_text cut.0 then Some cut else None) (cut_at_end s)

-- the charset field in front of the first question mark, and what stands behind that
unfoldable pub cut_charset : List ℕ → Option Cut
cut_charset s =
    let field = before_first is_question_mark s in
    if is_charset field && nat_lt (length field) (length s)
    then Some (field, after_first is_question_mark s) else None

-- the letter of an encoding and a question mark, and what stands behind them
unfoldable pub cut_letter : List ℕ → Option (ℕ × List ℕ)
cut_letter [] = None
cut_letter (b ∷ []) = None
cut_letter (b ∷ c ∷ rest) = if (is_b b || is_q b) && c == 63 then Some (b, rest) else None

-- what stands behind `=?` at the front
unfoldable pub behind_start : List ℕ → Option (List ℕ)
behind_start [] = None
behind_start (b ∷ []) = None
behind_start (b ∷ c ∷ rest) = if b == 61 && c == 63 then Some rest else None

-- the frame that a charset field, a letter and what is behind them make, and what follows it
abbrev pub with_text : List ℕ → ℕ → Cut → Frame × List ℕ
with_text charset letter cut = (record { charset = charset; letter = letter; text = cut.0 }, cut.1)

abbrev pub with_letter : List ℕ → ℕ × List ℕ → Option (Frame × List ℕ)
with_letter charset cut = option_map (with_text charset cut.0) (cut_text cut.1)

abbrev pub with_charset : Cut → Option (Frame × List ℕ)
with_charset cut = option_and_then (with_letter cut.0) (cut_letter cut.1)

-- the frame that begins a list, if one does, and what stands behind it: `=?`, a charset field, `?`,
-- a letter, `?`, a text, and the first `?=` behind that question mark
unfoldable pub frame_at : List ℕ → Option (Frame × List ℕ)
frame_at s = option_and_then (λ inside. option_and_then with_charset (cut_charset inside))
    (behind_start s)
