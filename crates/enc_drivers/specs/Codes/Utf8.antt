-- The units of UTF-8 (Encoding Standard, section 8.1.1, UTF-8 decoder; the Unicode Standard, table
-- 3-7).
use Rattle.std.specs.Prelude.{ℕ, ◌<◌, ◌≤◌, Bool, ◌==◌, ◌&&◌, ◌||◌, if◌then◌else◌, List, ◌++◌}
use Rattle.std.specs.Prelude.{length, take, Some, encode_utf8}
use Rattle.enc_handles.specs.Utf8.{byte_in, is_tail_at, sequence_len, sequence_scalar}
use Rattle.enc_drivers.specs.declared.unit.Mode.{Mode}
use Rattle.enc_drivers.specs.Units.{UnitAt, AreBytes, scalar_at, malformed_at}
use Rattle.enc_drivers.specs.Encode.{BytesOf}

-- the first two bytes of a row of the table
abbrev pub begins_pair : List ℕ → ℕ → ℕ → ℕ → ℕ → Bool
begins_pair bytes low high second_low second_high =
    byte_in bytes 0 low high && byte_in bytes 1 second_low second_high

-- the first two bytes of a sequence of three
abbrev pub two_of_three : List ℕ → Bool
two_of_three bytes =
    begins_pair bytes 0xE0 0xE0 0xA0 0xBF
    || begins_pair bytes 0xE1 0xEC 0x80 0xBF
    || begins_pair bytes 0xED 0xED 0x80 0x9F
    || begins_pair bytes 0xEE 0xEF 0x80 0xBF

-- the first two bytes of a sequence of four
abbrev pub two_of_four : List ℕ → Bool
two_of_four bytes =
    begins_pair bytes 0xF0 0xF0 0x90 0xBF
    || begins_pair bytes 0xF1 0xF3 0x80 0xBF
    || begins_pair bytes 0xF4 0xF4 0x80 0x8F

-- where no sequence stands at the front: how many bytes at the front begin one, and at least one
-- (Encoding Standard, section 8.1.1; the Unicode Standard, section 3.9, substitution of maximal
-- subparts)
unfoldable pub malformed_len : List ℕ → ℕ
malformed_len bytes =
    if two_of_four bytes && is_tail_at bytes 2 then 3
    else (if two_of_four bytes || two_of_three bytes then 2
    else 1)

-- the scalar of the well-formed sequence at the front, or one malformed unit
unfoldable pub utf8_unit : Mode → List ℕ → UnitAt
utf8_unit mode rest =
    if sequence_len rest == 0 then malformed_at mode (malformed_len rest)
    else scalar_at mode (sequence_scalar rest) (sequence_len rest)

-- n bytes at the front are a front of some well-formed sequence: with some bytes behind them they
-- begin one that is no shorter
abbrev pub BeginsSequence : List ℕ → ℕ → Type 0
BeginsSequence bytes n = (n ≤ length bytes)
    × ((more : List ℕ) × AreBytes more × (n ≤ sequence_len (take n bytes ++ more)))

-- n is one or more; of more than one byte, n is the greatest number that begin a sequence
pub record IsLongestBegun (bytes : List ℕ) (n : ℕ) : Type 0 where
  pub some : 1 ≤ n
  pub begun : 1 < n → BeginsSequence bytes n
  pub longest : (k : ℕ) → n < k → ¬ BeginsSequence bytes k

-- the bytes of a scalar: its UTF-8 (Encoding Standard, section 8.1.2, UTF-8 encoder, which UTF-16
-- has too)
unfoldable pub utf8_bytes_of : BytesOf
utf8_bytes_of scalar = Some (encode_utf8 scalar)
