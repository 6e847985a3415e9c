-- Well-formed UTF-8 by the table of its sequences, and the text of a row of scalars.
-- Encoding Standard, section 8.1.1 (UTF-8 decoder): its bounds are the rows of the Unicode
-- Standard, table 3-7.
use Rattle.std.specs.Prelude.{◌≡◌, ℕ, ◌+◌, ◌*◌, ◌-◌, ◌≤◌, Bool, true, ◌&&◌, List, length, take}
use Rattle.std.specs.Prelude.{slice_index, nat_le, nat_lt, ◌==◌, if◌then◌else◌, encode_utf8_all}
use Rattle.std.specs.Str.{all_scalars}
use Rattle.std.specs.List.{flat_map}

-- a byte from low to high stands at place k
abbrev pub byte_in : List ℕ → ℕ → ℕ → ℕ → Bool
byte_in bytes k low high =
    nat_lt k (length bytes)
    && (nat_le low (slice_index bytes k) && nat_le (slice_index bytes k) high)

-- a byte that may stand third or fourth in a sequence is at place k
abbrev pub is_tail_at : List ℕ → ℕ → Bool
is_tail_at bytes k = byte_in bytes k 0x80 0xBF

-- one row of the table: a first byte, a second byte, and tails up to a sequence's length of two,
-- three or four
abbrev pub begins_two : List ℕ → ℕ → ℕ → Bool
begins_two bytes low high = byte_in bytes 0 low high && is_tail_at bytes 1

abbrev pub begins_three : List ℕ → ℕ → ℕ → ℕ → ℕ → Bool
begins_three bytes low high second_low second_high =
    byte_in bytes 0 low high && (byte_in bytes 1 second_low second_high && is_tail_at bytes 2)

abbrev pub begins_four : List ℕ → ℕ → ℕ → ℕ → ℕ → Bool
begins_four bytes low high second_low second_high =
    byte_in bytes 0 low high
    && (byte_in bytes 1 second_low second_high && (is_tail_at bytes 2 && is_tail_at bytes 3))

-- the length of the well-formed sequence at the front, by the table's rows; 0 where none stands
-- there
unfoldable pub sequence_len : List ℕ → ℕ
sequence_len bytes =
    if byte_in bytes 0 0x00 0x7F then 1
    else (if begins_two bytes 0xC2 0xDF then 2
    else (if begins_three bytes 0xE0 0xE0 0xA0 0xBF then 3
    else (if begins_three bytes 0xE1 0xEC 0x80 0xBF then 3
    else (if begins_three bytes 0xED 0xED 0x80 0x9F then 3
    else (if begins_three bytes 0xEE 0xEF 0x80 0xBF then 3
    else (if begins_four bytes 0xF0 0xF0 0x90 0xBF then 4
    else (if begins_four bytes 0xF1 0xF3 0x80 0xBF then 4
    else (if begins_four bytes 0xF4 0xF4 0x80 0x8F then 4
    else 0))))))))

-- the scalar of the well-formed sequence at the front: the low bits of its bytes in a row
unfoldable pub sequence_scalar : List ℕ → ℕ
sequence_scalar bytes =
    let first = slice_index bytes 0 in
    let second = slice_index bytes 1 - 0x80 in
    let third = slice_index bytes 2 - 0x80 in
    let fourth = slice_index bytes 3 - 0x80 in
    if sequence_len bytes == 4 then (first - 0xF0) * 0x4_0000 + second * 0x1000 + third * 0x40
    + fourth
    else (if sequence_len bytes == 3 then (first - 0xE0) * 0x1000 + second * 0x40 + third
    else (if sequence_len bytes == 2 then (first - 0xC0) * 0x40 + second
    else first))

-- each of these is a scalar: at most 0x10FFFF, and no surrogate
abbrev pub AreScalars : List ℕ → Type 0
AreScalars scalars = all_scalars scalars ≡ true

-- the bytes begin with the well-formed sequences of these scalars
abbrev pub BeginsWith : List ℕ → List ℕ → Type 0
BeginsWith scalars bytes = take (length (encode_utf8_all scalars)) bytes ≡ encode_utf8_all scalars

-- the text of scalars in a form that writes one scalar as `form` says
abbrev pub text_of : (ℕ → List ℕ) → List ℕ → List ℕ
text_of form scalars = flat_map form scalars

-- a front of whole well-formed sequences whose text has at most room elements
pub record IsFittingFront (form : ℕ → List ℕ) (bytes : List ℕ) (room : ℕ)
    (scalars : List ℕ) : Type 0 where
  pub each : AreScalars scalars
  pub front : BeginsWith scalars bytes
  pub fits : length (text_of form scalars) ≤ room

-- the longest such front
pub record IsLongestFront (form : ℕ → List ℕ) (bytes : List ℕ) (room : ℕ)
    (scalars : List ℕ) : Type 0 where
  pub fitting : IsFittingFront form bytes room scalars
  pub longest : (others : List ℕ) → IsFittingFront form bytes room others
      → length others ≤ length scalars
