-- Index files (Encoding Standard, section 5): the pairs of a place and a scalar that the lines of a
-- text have.
use Rattle.std.specs.Prelude.{◌≡◌, ℕ, ◌+◌, ◌-◌, ◌*◌, ◌<◌, ◌==◌, nat_le, Bool, true, false, ◌&&◌}
use Rattle.std.specs.Prelude.{◌||◌, if◌then◌else◌, List, [], ◌∷◌, ◌++◌, length, take, drop, fold}
use Rattle.std.specs.Prelude.{slice_index, Result, Ok, Err}
use Rattle.std.specs.List.{prefix_len}
use Rattle.enc_front.specs.declared.index_file.Class.{Class}
use Rattle.enc_front.specs.declared.index_file.Class.TheVariants.{Space, Digit, HexDigit}
use Rattle.enc_front.specs.declared.index_file.IndexError.{IndexError}
use Rattle.enc_front.specs.declared.index_file.IndexError.TheVariants.{Memory, BadLine}
use Rattle.enc_front.specs.declared.index_file.Line.{Line}
use Rattle.enc_front.specs.declared.index_file.Line.TheVariants.{Skipped, Pair, Bad}

-- a byte in front of the first of the lines
abbrev pub with_first : ℕ → List (List ℕ) → List (List ℕ)
with_first b [] = (b ∷ []) ∷ []
with_first b (line ∷ lines) = (b ∷ line) ∷ lines

-- the lines of a text, which is cut at each LF; behind an LF at the end there is none
abbrev pub lines_of : List ℕ → List (List ℕ)
lines_of [] = []
lines_of (b ∷ rest) = if b == 10 then [] ∷ lines_of rest else with_first b (lines_of rest)

-- without one CR at the end
abbrev pub without_cr : List ℕ → List ℕ
without_cr line = if slice_index line (length line - 1) == 13 then take (length line - 1) line
    else line

abbrev pub is_digit : ℕ → Bool
is_digit b = nat_le 48 b && nat_le b 57

abbrev pub is_hex_digit : ℕ → Bool
is_hex_digit b = is_digit b || ((nat_le 65 b && nat_le b 70) || (nat_le 97 b && nat_le b 102))

-- the bytes of a part of a line
abbrev pub is_of_class : Class → ℕ → Bool
is_of_class Space b = b == 32
is_of_class Digit b = is_digit b
is_of_class HexDigit b = is_hex_digit b

-- the number of a digit, of either case
abbrev pub digit_number : ℕ → ℕ
digit_number b = if nat_le b 57 then b - 48 else (if nat_le b 70 then b - 55 else b - 87)

-- the number that digits write
abbrev pub digits_number : ℕ → List ℕ → ℕ
digits_number base digits = fold (λ n b. base * n + digit_number b) 0 digits

-- a line ends here, or a tab and anything follows
abbrev pub is_line_end : List ℕ → Bool
is_line_end [] = true
is_line_end (b ∷ rest) = b == 9

-- a tab and `0x`
abbrev pub begins_scalar : List ℕ → Bool
begins_scalar (a ∷ b ∷ c ∷ rest) = (a == 9 && b == 48) && c == 120
begins_scalar _ = false

-- one to nine digits of a place, and four to six of a scalar
abbrev pub are_lengths : ℕ → ℕ → Bool
are_lengths place scalar = (nat_le 1 place && nat_le place 9)
    && (nat_le 4 scalar && nat_le scalar 6)

-- a place of one to nine digits, a scalar of four to six hexadecimal digits, and the end
unfoldable pub pair_of_parts : List ℕ → List ℕ → List ℕ → Line
pair_of_parts place scalar rest =
    if are_lengths (length place) (length scalar) && is_line_end rest
    then Pair (digits_number 10 place) (digits_number 16 scalar) else Bad

-- what stands behind `0x`: the scalar's digits, and the rest
unfoldable pub pair_with : List ℕ → List ℕ → Line
pair_with place text = pair_of_parts place (take (prefix_len (is_of_class HexDigit) text) text)
    (drop (prefix_len (is_of_class HexDigit) text) text)

-- what stands behind the place's digits: a tab, `0x` and the scalar
unfoldable pub pair_behind : List ℕ → List ℕ → Line
pair_behind place text = if begins_scalar text then pair_with place (drop 3 text) else Bad

-- what stands behind the spaces: the place's digits, and the rest
unfoldable pub pair_in : List ℕ → Line
pair_in text = pair_behind (take (prefix_len (is_of_class Digit) text) text)
    (drop (prefix_len (is_of_class Digit) text) text)

-- an empty line, and one that begins with `#`
abbrev pub skips_line : List ℕ → Bool
skips_line [] = true
skips_line (b ∷ rest) = b == 35

-- what a line has: nothing where it is skipped, else a pair behind spaces
unfoldable pub line_of : List ℕ → Line
line_of line = if skips_line line then Skipped
    else pair_in (drop (prefix_len (is_of_class Space) line) line)

-- pairs in front of the others
abbrev pub before_pairs : List (ℕ × ℕ) → Result (List (ℕ × ℕ)) ℕ → Result (List (ℕ × ℕ)) ℕ
before_pairs pairs (Ok more) = Ok (pairs ++ more)
before_pairs pairs (Err number) = Err number

-- the pairs of a line with its number, and of those behind it
abbrev pub with_line : ℕ → Line → Result (List (ℕ × ℕ)) ℕ → Result (List (ℕ × ℕ)) ℕ
with_line number Skipped rest = rest
with_line number (Pair place scalar) rest = before_pairs ((place, scalar) ∷ []) rest
with_line number Bad rest = Err number

-- the pairs of lines, of which the first has this number, or the number of the first bad line
abbrev pub pairs_of_lines : ℕ → List (List ℕ) → Result (List (ℕ × ℕ)) ℕ
pairs_of_lines number [] = Ok []
pairs_of_lines number (line ∷ lines) = with_line number (line_of (without_cr line))
    (pairs_of_lines (number + 1) lines)

-- the pairs of an index file, or the number of its first bad line, from 1
abbrev pub index_pairs : List ℕ → Result (List (ℕ × ℕ)) ℕ
index_pairs text = pairs_of_lines 1 (lines_of text)

-- out of memory, or this bad line
abbrev pub IsMemoryOrLine : Result (List (ℕ × ℕ)) ℕ → IndexError → Type 0
IsMemoryOrLine pairs Memory = Unit {0}
IsMemoryOrLine pairs (BadLine number) = pairs ≡ Err number

-- digits of a number system
abbrev pub AreDigits : ℕ → List ℕ → Type 0
AreDigits base digits = (k : ℕ) → k < length digits → digit_number (slice_index digits k) < base
