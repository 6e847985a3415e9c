-- What UTF-16 writes of a scalar is read as that scalar.
use Rattle.std.proofs.Common.{◌≡◌, ℕ, ◌+◌, ◌-◌, ◌/◌, ◌%◌, ◌<◌, ◌≤◌, Bool, true, false, ltb, List, [], ◌∷◌, ◌++◌, length, refl, arith, inl, inr}
use Rattle.std.specs.Prelude.{◌⊎◌}
use Rattle.std.specs.Char.{IsScalar}
use lib.Utf8.{scalar_cases}
use Rattle.std.proofs.lemmas.Bool.{ltb-false}
use Rattle.std.proofs.lemmas.Bool.Decides.{nat_tests}
use Rattle.enc_handles.specs.Utf16.{code_unit, is_lead, is_trail, pair_scalar}
use Rattle.enc_drivers.specs.declared.unit.Mode.{Mode}
use Rattle.enc_drivers.specs.Units.{scalar_at}
use Rattle.enc_drivers.specs.Codes.Utf16.{utf16_unit, unit_bytes, scalar_bytes}

single_read : (big : Bool) (mode : Mode) (a b c : ℕ) (rest : List ℕ) → code_unit big a b ≡ c → is_lead c ≡ false → is_trail c ≡ false → utf16_unit big mode (a ∷ b ∷ rest) ≡ scalar_at mode c 2
unfolding utf16_unit
single_read big mode a b c [] is lead trail = rw (is, lead, trail) refl
single_read big mode a b c (d ∷ []) is lead trail = rw (is, lead, trail) refl
single_read big mode a b c (d ∷ e ∷ rest) is lead trail = rw (is, lead, trail) refl

pair_read : (big : Bool) (mode : Mode) (a b d e u v : ℕ) (rest : List ℕ) → code_unit big a b ≡ u → code_unit big d e ≡ v → is_lead u ≡ true → is_trail v ≡ true → utf16_unit big mode (a ∷ b ∷ d ∷ e ∷ rest) ≡ scalar_at mode (pair_scalar u v) 4
unfolding utf16_unit
pair_read big mode a b d e u v rest is_u is_v lead trail = rw (is_u, is_v, lead, trail) refl

lead_is : (u : ℕ) → 0xD800 ≤ u → u ≤ 0xDBFF → is_lead u ≡ true
lead_is u h k = grind (arith, nat_tests)

trail_is : (u : ℕ) → 0xDC00 ≤ u → u ≤ 0xDFFF → is_trail u ≡ true
trail_is u h k = grind (arith, nat_tests)

no_lead : (u : ℕ) → (u < 0xD800) ⊎ (0xE000 ≤ u) → is_lead u ≡ false
no_lead u (inl h) = grind (arith, nat_tests)
no_lead u (inr h) = grind (arith, nat_tests)

no_trail : (u : ℕ) → (u < 0xD800) ⊎ (0xE000 ≤ u) → is_trail u ≡ false
no_trail u (inl h) = grind (arith, nat_tests)
no_trail u (inr h) = grind (arith, nat_tests)

outside : (c : ℕ) → (c < 0xD800) ⊎ ((0xE000 ≤ c) × (c < 0x110000)) → (c < 0xD800) ⊎ (0xE000 ≤ c)
outside c (inl h) = inl h
outside c (inr h) = inr h.0

below_end : (c : ℕ) → (c < 0xD800) ⊎ ((0xE000 ≤ c) × (c < 0x110000)) → 0x10000 ≤ c → c < 0x110000
below_end c (inl h) k = omega arith
below_end c (inr h) k = h.1

big_unit : (u : ℕ) → code_unit true (u / 0x100) (u % 0x100) ≡ u
big_unit u = omega arith

little_unit : (u : ℕ) → code_unit false (u % 0x100) (u / 0x100) ≡ u
little_unit u = omega arith

module _ (mode : Mode) (c : ℕ) (rest : List ℕ) where
  one_unit : (big : Bool) → (c < 0xD800) ⊎ (0xE000 ≤ c) → utf16_unit big mode (unit_bytes big c ++ rest) ≡ scalar_at mode c 2
  one_unit true h = single_read true mode (c / 0x100) (c % 0x100) c rest (big_unit c) (no_lead c h) (no_trail c h)
  one_unit false h = single_read false mode (c % 0x100) (c / 0x100) c rest (little_unit c) (no_lead c h) (no_trail c h)

  two_units : (big : Bool) (u v : ℕ) → is_lead u ≡ true → is_trail v ≡ true → pair_scalar u v ≡ c → utf16_unit big mode (unit_bytes big u ++ (unit_bytes big v ++ rest)) ≡ scalar_at mode c 4
  two_units true u v lead trail is =
      rw (← is) (pair_read true mode (u / 0x100) (u % 0x100) (v / 0x100) (v % 0x100) u v rest (big_unit u) (big_unit v) lead trail)
  two_units false u v lead trail is =
      rw (← is) (pair_read false mode (u % 0x100) (u / 0x100) (v % 0x100) (v / 0x100) u v rest (little_unit u) (little_unit v) lead trail)

-- what is written of a scalar is read as it, whatever follows
pub utf16_round_trip : (big : Bool) (mode : Mode) (c : ℕ) (rest : List ℕ) → IsScalar c → utf16_unit big mode (scalar_bytes big c ++ rest) ≡ scalar_at mode c (length (scalar_bytes big c))
unfolding scalar_bytes
utf16_round_trip big mode c rest h = by_tests big (ltb c 0x10000) refl (scalar_cases c h)
  where
    by_tests : (big : Bool) (p : Bool) → ltb c 0x10000 ≡ p → (c < 0xD800) ⊎ ((0xE000 ≤ c) × (c < 0x110000)) → utf16_unit big mode (scalar_bytes big c ++ rest) ≡ scalar_at mode c (length (scalar_bytes big c))
    by_tests true true e s = rw e (one_unit mode c rest true (outside c s))
    by_tests false true e s = rw e (one_unit mode c rest false (outside c s))
    by_tests true false e s =
        let low = ltb-false c 0x10000 e in
        let high = below_end c s low in
        let u = 0xD800 + (c - 0x10000) / 0x400 in
        let v = 0xDC00 + (c - 0x10000) % 0x400 in
        rw e (two_units mode c rest true u v (lead_is u (omega arith) (omega arith)) (trail_is v (omega arith) (omega arith)) (omega arith))
    by_tests false false e s =
        let low = ltb-false c 0x10000 e in
        let high = below_end c s low in
        let u = 0xD800 + (c - 0x10000) / 0x400 in
        let v = 0xDC00 + (c - 0x10000) % 0x400 in
        rw e (two_units mode c rest false u v (lead_is u (omega arith) (omega arith)) (trail_is v (omega arith) (omega arith)) (omega arith))
