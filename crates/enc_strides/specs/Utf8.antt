-- Units of UTF-16 as UTF-8, in entries of four bytes.
use Rattle.std.specs.Prelude.{◌≡◌, ℕ, ◌+◌, ◌*◌, ◌/◌, ◌%◌, ◌^◌, List, ◌++◌, length, take, nat_lt}
use Rattle.std.specs.Prelude.{if◌then◌else◌}
use Rattle.std.specs.Int.{to_le_bytes}
use mir.Syntax.{w32}

-- the last byte of a sequence
abbrev pub last_byte : ℕ → ℕ
last_byte unit = 0x80 + unit % 0x40

-- the UTF-8 of a unit that is no surrogate, as a number whose low bytes come first, and above three
-- bytes how many they are
abbrev pub entry : ℕ → ℕ
entry unit =
    if nat_lt unit 0x80 then unit + 0x100_0000
    else if nat_lt unit 0x800 then 0xC0 + unit / 0x40 + 0x100 * last_byte unit + 0x200_0000
    else 0xE0 + unit / 0x1000 + 0x100 * last_byte (unit / 0x40) + 0x1_0000 * last_byte unit
    + 0x300_0000

-- the bytes of an entry that count
abbrev pub entry_text : ℕ → List ℕ
entry_text entry = take (entry / 2 ^ 24 % 4) (to_le_bytes w32 entry)

-- text was written from one place to another
pub record Appended (before after : List ℕ) (at end : ℕ) (text : List ℕ) : Type 0 where
  pub place : end ≡ at + length text
  pub value : take end after ≡ take at before ++ text
