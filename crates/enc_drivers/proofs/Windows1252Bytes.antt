-- The byte of a scalar in windows-1252, by the place that is left of a division.
use Rattle.std.proofs.Common.{◌≡◌, ℕ, ◌+◌, ◌-◌, ◌%◌, ◌<◌, ◌≤◌, true, false, [], ◌∷◌, refl, ap, sym, ◌∙◌, ltb-true, arith, ◌⊎◌, inl, inr, ⊎_elim, slice_index}
use Rattle.std.specs.Prelude.{nat_le, nat_lt, ◌&&◌, ◌==◌, Option, Some, None, option_map}
use Rattle.std.proofs.lemmas.Bool.{agree_below_at, eqb-true, ne_eqb, cases_lt, true≢false}
use Rattle.std.proofs.lemmas.Bool.Decides.{nat_tests}
use Rattle.enc_drivers.specs.declared.codes.windows_1252.TheConstants.{PLACES}
use Rattle.enc_drivers.specs.Lookup.{holds, least_place}
use Rattle.enc_drivers.specs.Codes.SingleByte.{single_byte_bytes_of}
use Rattle.enc_drivers.specs.Codes.Windows1252.{windows_1252_table, windows_1252_scalar, windows_1252_places, windows_1252_bytes_of}
use Rattle.enc_drivers.specs.Lemmas.LeastPlace.{holds_it, least_some, least_none}

abbrev pub entry : ℕ → ℕ
entry place = slice_index windows_1252_table place

abbrev pub likely : ℕ → ℕ
likely scalar = slice_index PLACES (scalar % 122)

pub likely_below : (scalar : ℕ) → likely scalar < 32
likely_below scalar =
    let rest : scalar % 122 < 122 = omega arith in
    ltb-true (likely scalar) 32 (agree_below_at (λ k. nat_lt (slice_index PLACES k) 32) (λ k. true) 122 (scalar % 122) refl rest)

likely_entry : (place : ℕ) → place < 32 → likely (entry place) ≡ place
likely_entry place h = eqb-true (likely (entry place)) place (agree_below_at (λ k. likely (entry k) == k) (λ k. true) 32 place refl h)

-- no entry is a scalar of A0 to FF
entry_apart : (place : ℕ) → place < 32 → (nat_le 0xA0 (entry place) && nat_le (entry place) 0xFF) ≡ false
entry_apart place h = agree_below_at (λ k. nat_le 0xA0 (entry k) && nat_le (entry k) 0xFF) (λ k. false) 32 place refl h

low_place : (place : ℕ) → place < 32 → windows_1252_scalar (place + 0x80) ≡ entry place
unfolding windows_1252_scalar
low_place place h =
    let test : (nat_le 0x80 (place + 0x80) && nat_le (place + 0x80) 0x9F) ≡ true = grind (arith, nat_tests) in
    let back : place + 0x80 - 0x80 ≡ place = omega arith in
    rw (test, back) refl

high_place : (place : ℕ) → 32 ≤ place → windows_1252_scalar (place + 0x80) ≡ place + 0x80
unfolding windows_1252_scalar
high_place place h =
    let test : (nat_le 0x80 (place + 0x80) && nat_le (place + 0x80) 0x9F) ≡ false = grind (arith, nat_tests) in
    rw test refl

-- a place that another scalar stands at
other : (scalar place : ℕ) → ¬ (windows_1252_scalar (place + 0x80) ≡ scalar) → holds windows_1252_places scalar place ≡ false
other scalar place h = ne_eqb (windows_1252_scalar (place + 0x80)) scalar h

-- the byte of the least place
by_place : (scalar : ℕ) (o : Option ℕ) → 0x80 ≤ scalar → least_place windows_1252_places scalar 128 ≡ o → windows_1252_bytes_of scalar ≡ option_map (λ place. (place + 0x80) ∷ []) o
unfolding single_byte_bytes_of
by_place scalar o h e = let test : nat_lt scalar 0x80 ≡ false = grind (arith, nat_tests) in rw (test, e) refl

pub ascii_byte : (scalar : ℕ) → scalar < 0x80 → windows_1252_bytes_of scalar ≡ Some (scalar ∷ [])
unfolding single_byte_bytes_of
ascii_byte scalar h = let test : nat_lt scalar 0x80 ≡ true = grind (arith, nat_tests) in rw test refl

pub same_byte : (scalar : ℕ) → 0xA0 ≤ scalar → scalar ≤ 0xFF → windows_1252_bytes_of scalar ≡ Some (scalar ∷ [])
same_byte scalar low high =
    let place = scalar - 0x80 in
    let back : scalar - 0x80 + 0x80 ≡ scalar = omega arith in
    let here : windows_1252_scalar (scalar - 0x80 + 0x80) ≡ scalar = high_place (scalar - 0x80) (omega arith) ∙ back in
    let least : least_place windows_1252_places scalar 128 ≡ Some (scalar - 0x80) =
    least_some windows_1252_places scalar 128 (scalar - 0x80) (omega arith) (holds_it windows_1252_places scalar (scalar - 0x80) (ap Some here)) (λ q below. other scalar q (before q below)) in
    by_place scalar (Some (scalar - 0x80)) (omega arith) least ∙ ap (λ b. Some (b ∷ [])) back
  where
    before : (q : ℕ) → q < scalar - 0x80 → ¬ (windows_1252_scalar (q + 0x80) ≡ scalar)
    before q below e = by_half (cases_lt q 32)
      where
        by_half : (q < 32) ⊎ (32 ≤ q) → ⊥
        by_half (inl k) =
            let is : entry q ≡ scalar = sym (low_place q k) ∙ e in
            let test : (nat_le 0xA0 (entry q) && nat_le (entry q) 0xFF) ≡ true = rw is (grind (arith, nat_tests)) in
            absurd (true≢false (sym test ∙ entry_apart q k))
        by_half (inr k) = let is : q + 0x80 ≡ scalar = sym (high_place q k) ∙ e in omega arith

-- a place that the table has the scalar at is the likely one
only_place : (scalar place q : ℕ) → place < 32 → entry place ≡ scalar → q < 32 → windows_1252_scalar (q + 0x80) ≡ scalar → q ≡ place
only_place scalar place q h is k e =
    let there : entry q ≡ entry place = sym (low_place q k) ∙ e ∙ sym is in
    sym (likely_entry q k) ∙ ap likely there ∙ likely_entry place h

pub table_byte : (scalar place : ℕ) → 0x80 ≤ scalar → place < 32 → entry place ≡ scalar → windows_1252_bytes_of scalar ≡ Some ((0x80 + place) ∷ [])
table_byte scalar place low h is =
    let here : windows_1252_scalar (place + 0x80) ≡ scalar = low_place place h ∙ is in
    let turned : place + 0x80 ≡ 0x80 + place = omega arith in
    let least : least_place windows_1252_places scalar 128 ≡ Some place =
    least_some windows_1252_places scalar 128 place (omega arith) (holds_it windows_1252_places scalar place (ap Some here)) (λ q below. other scalar q (before q below)) in
    by_place scalar (Some place) low least ∙ ap (λ b. Some (b ∷ [])) turned
  where
    before : (q : ℕ) → q < place → ¬ (windows_1252_scalar (q + 0x80) ≡ scalar)
    before q below e = let same = only_place scalar place q h is (omega arith) e in omega arith

pub no_byte : (scalar : ℕ) → 0x80 ≤ scalar → (scalar < 0xA0) ⊎ (0xFF < scalar) → ¬ (entry (likely scalar) ≡ scalar) → windows_1252_bytes_of scalar ≡ None
no_byte scalar low apart h =
    by_place scalar None low (least_none windows_1252_places scalar 128 (λ q below. other scalar q (nowhere q below)))
  where
    nowhere : (q : ℕ) → q < 128 → ¬ (windows_1252_scalar (q + 0x80) ≡ scalar)
    nowhere q below e = by_half (cases_lt q 32)
      where
        by_half : (q < 32) ⊎ (32 ≤ q) → ⊥
        by_half (inl k) =
            let is : entry q ≡ scalar = sym (low_place q k) ∙ e in
            h (ap entry (ap likely (sym is) ∙ likely_entry q k) ∙ is)
        by_half (inr k) =
            let is : q + 0x80 ≡ scalar = sym (high_place q k) ∙ e in
            ⊎_elim {C = ⊥} (λ small. omega arith) (λ large. omega arith) apart
