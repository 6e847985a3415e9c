-- The laws of Big5.
use Rattle.std.proofs.Common.{◌≡◌, ℕ, ◌<◌, Bool, true, false, List, ◌∷◌, refl, arith}
use Rattle.std.specs.Prelude.{◌==◌}
use Rattle.std.proofs.lemmas.Bool.Decides.{nat_tests}
use Rattle.enc_drivers.specs.declared.unit.Mode.{Mode}
use Rattle.enc_drivers.specs.Units.{scalar_at, IsCode, HasScalars}
use Rattle.enc_drivers.specs.Lookup.{Places, FindsScalars}
use Rattle.enc_drivers.specs.Codes.Big5.{is_big5_trail, big5_place, big5_at, big5_both, big5_pairs}
use Rattle.enc_drivers.specs.Codes.Big5.{big5_unit}
use Rattle.enc_drivers.specs.Lemmas.PairsLaw.{pairs_law, pairs_ascii, found_scalars, ascii_item}
use Rattle.enc_drivers.specs.Lemmas.PairsLaw.{ascii_short}

at_scalars : (places : Places) → FindsScalars places → (place : ℕ) → HasScalars (big5_at places place)
unfolding big5_at
at_scalars places finds place = by_tests (place == 1133) refl (place == 1135) refl (place == 1164) refl (place == 1166) refl
  where
    by_tests : (p : Bool) → (place == 1133) ≡ p → (q : Bool) → (place == 1135) ≡ q → (r : Bool) → (place == 1164) ≡ r → (s : Bool) → (place == 1166) ≡ s → HasScalars (big5_at places place)
    by_tests true e q f r g s h = rw e ((omega arith, omega arith), (omega arith, omega arith))
    by_tests false e true f r g s h = rw (e, f) ((omega arith, omega arith), (omega arith, omega arith))
    by_tests false e false f true g s h = rw (e, f, g) ((omega arith, omega arith), (omega arith, omega arith))
    by_tests false e false f false g true h = rw (e, f, g, h) ((omega arith, omega arith), (omega arith, omega arith))
    by_tests false e false f false g false h = rw (e, f, g, h) (found_scalars places finds place)

both_scalars : (places : Places) → FindsScalars places → (lead second : ℕ) → HasScalars (big5_both places lead second)
both_scalars places finds lead second = by_test (is_big5_trail second) refl
  where
    by_test : (t : Bool) → is_big5_trail second ≡ t → HasScalars (big5_both places lead second)
    by_test true e = rw e (at_scalars places finds (big5_place lead second))
    by_test false e = rw e tt

pub big5_law : (places : Places) → FindsScalars places → IsCode (big5_unit places)
big5_law places finds = pairs_law (big5_pairs places) (record {
  alone = ascii_item;
  alone_short = ascii_short;
  both = both_scalars places finds;
})

pub big5_ascii : (places : Places) (mode : Mode) (byte : ℕ) (rest : List ℕ) → byte < 0x80 → big5_unit places mode (byte ∷ rest) ≡ scalar_at mode byte 1
big5_ascii places = pairs_ascii (big5_pairs places) (record {
  no_lead = λ byte h. grind (arith, nat_tests);
  alone = λ byte h. grind (arith, nat_tests);
})
