-- The laws of EUC-KR.
use Rattle.std.proofs.Common.{◌≡◌, ℕ, ◌<◌, Bool, true, false, List, ◌∷◌, refl, arith}
use Rattle.std.proofs.lemmas.Bool.Decides.{nat_tests}
use Rattle.enc_drivers.specs.declared.unit.Mode.{Mode}
use Rattle.enc_drivers.specs.Units.{scalar_at, IsCode, HasScalars}
use Rattle.enc_drivers.specs.Lookup.{Places, FindsScalars}
use Rattle.enc_drivers.specs.Codes.EucKr.{is_euc_kr_trail, euc_kr_place, euc_kr_both, euc_kr_pairs}
use Rattle.enc_drivers.specs.Codes.EucKr.{euc_kr_unit}
use Rattle.enc_drivers.specs.Lemmas.PairsLaw.{pairs_law, pairs_ascii, found_scalars, ascii_item}
use Rattle.enc_drivers.specs.Lemmas.PairsLaw.{ascii_short}

both_scalars : (places : Places) → FindsScalars places → (lead second : ℕ) → HasScalars (euc_kr_both places lead second)
both_scalars places finds lead second = by_test (is_euc_kr_trail second) refl
  where
    by_test : (t : Bool) → is_euc_kr_trail second ≡ t → HasScalars (euc_kr_both places lead second)
    by_test true e = rw e (found_scalars places finds (euc_kr_place lead second))
    by_test false e = rw e tt

pub euc_kr_law : (places : Places) → FindsScalars places → IsCode (euc_kr_unit places)
euc_kr_law places finds = pairs_law (euc_kr_pairs places) (record {
  alone = ascii_item;
  alone_short = ascii_short;
  both = both_scalars places finds;
})

pub euc_kr_ascii : (places : Places) (mode : Mode) (byte : ℕ) (rest : List ℕ) → byte < 0x80 → euc_kr_unit places mode (byte ∷ rest) ≡ scalar_at mode byte 1
euc_kr_ascii places = pairs_ascii (euc_kr_pairs places) (record {
  no_lead = λ byte h. grind (arith, nat_tests);
  alone = λ byte h. grind (arith, nat_tests);
})
