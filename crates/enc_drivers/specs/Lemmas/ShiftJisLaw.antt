-- The laws of Shift_JIS.
use Rattle.std.proofs.Common.{◌≡◌, ℕ, ◌+◌, ◌-◌, ◌<◌, ◌≤◌, Bool, true, false, leb-true, List, ◌∷◌}
use Rattle.std.proofs.Common.{length, refl, arith}
use Rattle.std.specs.Prelude.{nat_le}
use Rattle.std.proofs.lemmas.Bool.{and_parts, le-leb}
use Rattle.std.proofs.lemmas.Bool.Decides.{nat_tests}
use Rattle.enc_drivers.specs.declared.unit.Item.TheVariants.{One}
use Rattle.enc_drivers.specs.declared.unit.Mode.{Mode}
use Rattle.enc_drivers.specs.Units.{scalar_at, IsCode, HasScalars, item_text}
use Rattle.enc_drivers.specs.Lookup.{Places, FindsScalars}
use Rattle.enc_drivers.specs.Codes.Pairs.{is_between}
use Rattle.enc_drivers.specs.Codes.ShiftJis.{is_shift_jis_trail, shift_jis_place, shift_jis_at}
use Rattle.enc_drivers.specs.Codes.ShiftJis.{shift_jis_alone, shift_jis_both, shift_jis_pairs}
use Rattle.enc_drivers.specs.Codes.ShiftJis.{shift_jis_unit}
use Rattle.enc_drivers.specs.Lemmas.Scalars.{scalar_low, scalar_high, encode_three}
use Rattle.enc_drivers.specs.Lemmas.PairsLaw.{pairs_law, pairs_ascii, found_scalars}

at_most : (low high n : ℕ) → is_between low high n ≡ true → n ≤ high
at_most low high n e = leb-true n high (and_parts (nat_le low n) (nat_le n high) e).1

at_scalars : (places : Places) → FindsScalars places → (place : ℕ) → HasScalars (shift_jis_at places place)
unfolding shift_jis_at
at_scalars places finds place = by_test (is_between 8836 10715 place) refl
  where
    by_test : (t : Bool) → is_between 8836 10715 place ≡ t → HasScalars (shift_jis_at places place)
    by_test true e = let most = at_most 8836 10715 place e in rw e (scalar_high (0xE000 + (place - 8836)) (omega arith) (omega (arith, most)))
    by_test false e = rw e (found_scalars places finds place)

both_scalars : (places : Places) → FindsScalars places → (lead second : ℕ) → HasScalars (shift_jis_both places lead second)
both_scalars places finds lead second = by_test (is_shift_jis_trail second) refl
  where
    by_test : (t : Bool) → is_shift_jis_trail second ≡ t → HasScalars (shift_jis_both places lead second)
    by_test true e = rw e (at_scalars places finds (shift_jis_place lead second))
    by_test false e = rw e tt

alone_item : (byte : ℕ) → HasScalars (shift_jis_alone byte) × (length (item_text (shift_jis_alone byte)) ≤ 3)
unfolding shift_jis_alone
alone_item byte = by_tests (nat_le byte 0x80) refl (is_between 0xA1 0xDF byte) refl
  where
    by_tests : (s : Bool) → nat_le byte 0x80 ≡ s → (t : Bool) → is_between 0xA1 0xDF byte ≡ t → HasScalars (shift_jis_alone byte) × (length (item_text (shift_jis_alone byte)) ≤ 3)
    by_tests true e t f = let most : byte ≤ 0x80 = leb-true byte 0x80 e in rw e (scalar_low byte (omega arith), encode_three byte (omega arith))
    by_tests false e true f =
        let most = at_most 0xA1 0xDF byte f in
        rw (e, f) (scalar_high (0xFF61 + (byte - 0xA1)) (omega arith) (omega (arith, most)), encode_three (0xFF61 + (byte - 0xA1)) (omega (arith, most)))
    by_tests false e false f = rw (e, f) (tt, omega arith)

pub shift_jis_law : (places : Places) → FindsScalars places → IsCode (shift_jis_unit places)
shift_jis_law places finds = pairs_law (shift_jis_pairs places) (record {
  alone = λ byte h. (alone_item byte).0;
  alone_short = λ byte h. (alone_item byte).1;
  both = both_scalars places finds;
})

ascii_alone : (byte : ℕ) → byte < 0x80 → shift_jis_alone byte ≡ One byte
unfolding shift_jis_alone
ascii_alone byte h = rw (le-leb byte 0x80 (omega arith)) refl

pub shift_jis_ascii : (places : Places) (mode : Mode) (byte : ℕ) (rest : List ℕ) → byte < 0x80 → shift_jis_unit places mode (byte ∷ rest) ≡ scalar_at mode byte 1
shift_jis_ascii places = pairs_ascii (shift_jis_pairs places) (record {
  no_lead = λ byte h. grind (arith, nat_tests);
  alone = ascii_alone;
})
