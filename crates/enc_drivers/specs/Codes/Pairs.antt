-- The units of codes whose characters have one byte, or a lead and a byte behind it: what the
-- decoders of Big5, Shift_JIS and EUC-KR share (Encoding Standard, sections 11.1.1, 12.3.1 and
-- 13.1.1).
use Rattle.std.specs.Prelude.{ℕ, ◌&&◌, nat_le, nat_lt, Bool, if◌then◌else◌, List, [], ◌∷◌, Option}
use Rattle.std.specs.Option.{option_map_or}
use Rattle.enc_drivers.specs.declared.unit.Item.{Item}
use Rattle.enc_drivers.specs.declared.unit.Item.TheVariants.{One, Two, Malformed, Silent}
use Rattle.enc_drivers.specs.declared.unit.Mode.{Mode}
use Rattle.enc_drivers.specs.Units.{UnitAt, malformed_at}

-- which bytes are leads, what a byte stands for that is none, and what a lead stands for with the
-- byte behind it: Malformed where they fail
pub record Pairs : Type 0 where
  pub is_lead : ℕ → Bool
  pub alone : ℕ → Item
  pub both : ℕ → ℕ → Item

-- a byte from low to high
abbrev pub is_between : ℕ → ℕ → ℕ → Bool
is_between low high byte = nat_le low byte && nat_le byte high

-- what an index has at a place, malformed where it has no scalar there
abbrev pub item_found : Option ℕ → Item
item_found scalar = option_map_or (λ c. One c) scalar Malformed

-- ASCII as it is: no other byte stands for a scalar alone
abbrev pub ascii_alone : ℕ → Item
ascii_alone byte = if nat_lt byte 0x80 then One byte else Malformed

-- a lead and the byte behind it: where they fail, an ASCII byte isn't in the unit but is read again
-- (the standard restores it)
abbrev pub both_len : Item → ℕ → ℕ
both_len (One scalar) second = 2
both_len (Two first next) second = 2
both_len Malformed second = if nat_lt second 0x80 then 1 else 2
both_len Silent second = 2

-- a byte that is no lead; a lead that the end cuts off; a lead and the byte behind it
unfoldable pub pairs_unit : Pairs → Mode → List ℕ → UnitAt
pairs_unit pairs mode [] = malformed_at mode 0
pairs_unit pairs mode (a ∷ []) = if pairs.is_lead a then malformed_at mode 1
    else record { item = pairs.alone a; len = 1; next = mode }
pairs_unit pairs mode (a ∷ b ∷ rest) =
    if pairs.is_lead a
    then record { item = pairs.both a b; len = both_len (pairs.both a b) b; next = mode }
    else record { item = pairs.alone a; len = 1; next = mode }
