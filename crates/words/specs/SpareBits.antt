-- B texts without the spare bits of their last letters, as the only ones that a strict decoder
-- takes.
use Rattle.std.specs.Prelude.{ℕ, ◌-◌, ◌*◌, ◌/◌, ◌^◌, List, length, slice_index, slice_set, codes}
use Rattle.words.specs.Base64.{letter_value, letters, padding_len}

-- the letters by their six-bit values (RFC 2045, section 6.8, table 1)
abbrev pub alphabet : List ℕ
alphabet = codes "ABCDEFGHIJKLMNOPQRSTUVWXYZabcdefghijklmnopqrstuvwxyz0123456789+/"

-- the letter whose value is that of another, rounded down to a multiple of a unit
abbrev pub rounded_letter : ℕ → ℕ → ℕ
rounded_letter unit letter = slice_index alphabet (letter_value letter / unit * unit)

-- a text with the spare bits of its last letter cleared, two for each `=`
abbrev pub cleared : List ℕ → List ℕ
cleared text =
    slice_set text (length (letters text) - 1)
    (rounded_letter (4 ^ padding_len text) (slice_index text (length (letters text) - 1)))
