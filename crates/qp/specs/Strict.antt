-- The faults of quoted-printable text, and its value read strictly (RFC 2045 section 6.7).
use Rattle.std.specs.Prelude.{ℕ, Bool, true, ◌==◌, ◌||◌, ◌&&◌, not, nat_le, nat_lt, if◌then◌else◌}
use Rattle.std.specs.Prelude.{List, [], ◌∷◌, length, Option, Some, None, Result, Ok, Err}
use Rattle.std.specs.List.{list_any}
use Rattle.std.specs.Char.{is_digit}
use Rattle.qp.specs.declared.ParseMode.{ParseMode}
use Rattle.qp.specs.declared.ParseMode.TheVariants.{Strict, Robust}
use Rattle.qp.specs.declared.QuotedPrintableError.{QuotedPrintableError}
use Rattle.qp.specs.declared.QuotedPrintableError.TheVariants.{InvalidByte, LineTooLong}
use Rattle.qp.specs.declared.QuotedPrintableError.TheVariants.{IncompleteHexOctet, InvalidHexOctet}
use Rattle.qp.specs.declared.QuotedPrintableError.TheVariants.{LowercaseHexOctet}
use Rattle.qp.specs.Text.{is_text_octet, trimmed, lines}
use Rattle.qp.specs.Line.{Part, literal, escape, cut_escape, soft_break, parts, is_soft}
use Rattle.qp.specs.Robust.{robust}

-- CR and LF stand only as CR LF pairs (RFC 2045 6.7, rule 4 and its note; 6.7, NOTE on line breaks)
unfoldable pub pairs_only : List ℕ → Bool
pairs_only [] = true
pairs_only (b ∷ []) = not ((b == 13) || (b == 10))
pairs_only (b ∷ c ∷ rest) =
    if (b == 13) && (c == 10) then pairs_only rest
    else not ((b == 13) || (b == 10)) && pairs_only (c ∷ rest)

-- an octet that may not stand in quoted-printable text, or a CR or LF outside a CR LF pair (RFC
-- 2045 6.7, rules 2 and 4)
unfoldable pub has_invalid_byte : List ℕ → Bool
has_invalid_byte input = list_any (λ b. not (is_text_octet b)) input || not (pairs_only input)

-- one fault, or else another
abbrev pub or_fault : Option QuotedPrintableError → Option QuotedPrintableError
    → Option QuotedPrintableError
or_fault None other = other
or_fault (Some fault) other = Some fault

-- the first fault that elements of a list have
unfoldable pub first_fault : {A : Type 0} → (A → Option QuotedPrintableError) → List A
    → Option QuotedPrintableError
first_fault fault_of [] = None
first_fault fault_of (x ∷ xs) = or_fault (fault_of x) (first_fault fault_of xs)

-- a to f
abbrev pub is_lowercase_digit : ℕ → Bool
is_lowercase_digit b = nat_le 97 b && nat_le b 102

-- the fault of a part: an `=` with one octet after it, or with two that aren't upper-case
-- hexadecimal digits (RFC 2045 6.7, rule 1)
abbrev pub part_fault : Part → Option QuotedPrintableError
part_fault (literal b) = None
part_fault (escape u v) =
    if is_digit u 16 && is_digit v 16
    then (if is_lowercase_digit u || is_lowercase_digit v then Some LowercaseHexOctet else None)
    else Some InvalidHexOctet
part_fault (cut_escape u) = Some IncompleteHexOctet
part_fault soft_break = None

-- the first fault of a line: its length, then its parts from left to right (RFC 2045 6.7, rules 5
-- and 1)
unfoldable pub line_fault : ℕ → List ℕ → Option QuotedPrintableError
line_fault limit line =
    if nat_lt limit (length (trimmed line)) then Some LineTooLong
    else first_fault part_fault (parts (trimmed line))

-- lines without an empty one at the end: what follows the last LF of a text is no line where it is
-- empty
unfoldable pub without_empty_end : List (List ℕ) → List (List ℕ)
without_empty_end [] = []
without_empty_end (line ∷ []) = if length line == 0 then [] else line ∷ []
without_empty_end (line ∷ next ∷ rest) = line ∷ without_empty_end (next ∷ rest)

-- the last line, or an empty one where there is none
unfoldable pub last_line : List (List ℕ) → List ℕ
last_line [] = []
last_line (line ∷ []) = line
last_line (line ∷ next ∷ rest) = last_line (next ∷ rest)

-- the last line ends in a soft line break, so that no line goes on with it, and an earlier line
-- ends in a hard one (RFC 2045 6.7, rule 5)
unfoldable pub ends_open : List (List ℕ) → Bool
ends_open list = is_soft (last_line list) && list_any (λ line. not (is_soft line)) list

-- the first fault of lines: that of a line, then that of their end
unfoldable pub lines_fault : ℕ → List (List ℕ) → Option QuotedPrintableError
lines_fault limit list =
    or_fault (first_fault (line_fault limit) list)
    (if ends_open list then Some IncompleteHexOctet else None)

-- the first fault of an input
unfoldable pub strict_fault : ℕ → List ℕ → Option QuotedPrintableError
strict_fault limit input =
    if has_invalid_byte input then Some InvalidByte
    else lines_fault limit (without_empty_end (lines input))

-- a value, unless there is a fault
abbrev pub unless_fault : Option QuotedPrintableError → List ℕ
    → Result (List ℕ) QuotedPrintableError
unless_fault None value = Ok value
unless_fault (Some fault) value = Err fault

-- the octets that an input stands for, or its first fault
unfoldable pub strict : ℕ → List ℕ → Result (List ℕ) QuotedPrintableError
strict limit input = unless_fault (strict_fault limit input) (robust input)

-- what decoding gives in a parse mode
abbrev pub decoded : ParseMode → ℕ → List ℕ → Result (List ℕ) QuotedPrintableError
decoded Strict limit input = strict limit input
decoded Robust limit input = Ok (robust input)
