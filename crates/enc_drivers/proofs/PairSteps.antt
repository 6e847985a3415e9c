-- What the front of bytes tells of the unit in codes of a lead and a byte behind it.
use Rattle.std.proofs.Common.{◌≡◌, ℕ, ◌<◌, ◌≤◌, true, false, List, [], ◌∷◌, ◌++◌, length, get_or, Option, Some, None, refl, ap, sym, ◌∙◌, arith}
use Rattle.std.proofs.lemmas.List.Elements.{All-nil, All-cons}
use Rattle.std.specs.Prelude.{IfSome}
use Rattle.enc_drivers.specs.declared.unit.Item.{Item}
use Rattle.enc_drivers.specs.declared.unit.Item.TheVariants.{One, Two, Malformed, Silent}
use Rattle.enc_drivers.specs.declared.unit.Mode.{Mode}
use Rattle.enc_drivers.specs.Bulk.{BeginsWithScalar, IsScalarOf}
use Rattle.enc_drivers.specs.Units.{malformed_at, scalar_at}
use Rattle.enc_drivers.specs.Steps.{IsUndecided}
use Rattle.enc_drivers.specs.Codes.Pairs.{Pairs, both_len, pairs_unit}

-- a byte that is no lead
pub alone_front : (pairs : Pairs) (mode : Mode) (front more : List ℕ) → 0 < length front → pairs.is_lead (get_or front 0 0) ≡ false
    → pairs_unit pairs mode (front ++ more) ≡ record { item = pairs.alone (get_or front 0 0); len = 1; next = mode }
unfolding pairs_unit
alone_front pairs mode [] more h lead = absurd (omega arith)
alone_front pairs mode (a ∷ []) [] h lead = rw lead refl
alone_front pairs mode (a ∷ []) (b ∷ more) h lead = rw lead refl
alone_front pairs mode (a ∷ b ∷ front) more h lead = rw lead refl

-- a lead and the byte behind it
pub both_front : (pairs : Pairs) (mode : Mode) (front more : List ℕ) → 2 ≤ length front → pairs.is_lead (get_or front 0 0) ≡ true
    → pairs_unit pairs mode (front ++ more) ≡ (let item = pairs.both (get_or front 0 0) (get_or front 1 0) in record { item = item; len = both_len item (get_or front 1 0); next = mode })
unfolding pairs_unit
both_front pairs mode [] more h lead = absurd (omega arith)
both_front pairs mode (a ∷ []) more h lead = absurd (omega arith)
both_front pairs mode (a ∷ b ∷ front) more h lead = rw lead refl

-- a lead with nothing behind it: the end makes it malformed, a byte past ASCII makes a unit of two bytes
pub lead_at_end : (pairs : Pairs) (mode : Mode) (front : List ℕ) → 0 < length front → length front < 2 → pairs.is_lead (get_or front 0 0) ≡ true
    → pairs_unit pairs mode front ≡ malformed_at mode 1
unfolding pairs_unit
lead_at_end pairs mode [] h l lead = absurd (omega arith)
lead_at_end pairs mode (a ∷ []) h l lead = rw lead refl
lead_at_end pairs mode (a ∷ b ∷ front) h l lead = absurd (omega arith)

two_long : (item : Item) → both_len item 0x80 ≡ 2
two_long (One scalar) = refl
two_long (Two first second) = refl
two_long Malformed = refl
two_long Silent = refl

pub lead_undecided : (pairs : Pairs) (mode : Mode) (front : List ℕ) → 0 < length front → length front < 2 → pairs.is_lead (get_or front 0 0) ≡ true
    → IsUndecided (pairs_unit pairs) mode front
lead_undecided pairs mode [] h l lead = absurd (omega arith)
lead_undecided pairs mode (a ∷ []) h l lead = record {
  one = [];
  other = 0x80 ∷ [];
  one_bytes = All-nil (λ b. b < 256);
  other_bytes = All-cons (λ b. b < 256) 0x80 [] (omega arith) (All-nil (λ b. b < 256));
  differ = λ e.
      let one : (pairs_unit pairs mode (a ∷ [])).len ≡ 1 = ap (λ u. u.len) (lead_at_end pairs mode (a ∷ []) h l lead) in
      let two : (pairs_unit pairs mode (a ∷ 0x80 ∷ [])).len ≡ 2 =
      ap (λ u. u.len) (both_front pairs mode (a ∷ 0x80 ∷ []) [] (omega arith) lead) ∙ two_long (pairs.both a 0x80) in
      let same : (pairs_unit pairs mode (a ∷ [])).len ≡ (pairs_unit pairs mode (a ∷ 0x80 ∷ [])).len = ap (λ u. u.len) e in
      absurd (omega arith);
}
lead_undecided pairs mode (a ∷ b ∷ front) h l lead = absurd (omega arith)

-- a scalar of one byte, and of a lead and the byte behind it
pub alone_scalar : (pairs : Pairs) (bytes : List ℕ) (r : Option (ℕ × ℕ)) (i : Item) → 0 < length bytes → pairs.is_lead (get_or bytes 0 0) ≡ false → i ≡ pairs.alone (get_or bytes 0 0)
    → IfSome r (λ found. IsScalarOf i 1 found) → IfSome r (λ found. BeginsWithScalar (pairs_unit pairs) bytes found.0 found.1)
alone_scalar pairs bytes None i h lead e told = told
alone_scalar pairs bytes (Some found) i h lead e told = λ mode more are.
    alone_front pairs mode bytes more h lead ∙ (ap (λ (j : Item). record { item = j; len = 1; next = mode }) (sym e ∙ told.0) ∙ ap (λ n. scalar_at mode found.0 n) (sym told.1))

pub both_scalar : (pairs : Pairs) (bytes : List ℕ) (r : Option (ℕ × ℕ)) (i : Item) → 2 ≤ length bytes → pairs.is_lead (get_or bytes 0 0) ≡ true → i ≡ pairs.both (get_or bytes 0 0) (get_or bytes 1 0)
    → IfSome r (λ found. IsScalarOf i 2 found) → IfSome r (λ found. BeginsWithScalar (pairs_unit pairs) bytes found.0 found.1)
both_scalar pairs bytes None i h lead e told = told
both_scalar pairs bytes (Some found) i h lead e told = λ mode more are.
    both_front pairs mode bytes more h lead
    ∙ (ap (λ (j : Item). record { item = j; len = both_len j (get_or bytes 1 0); next = mode }) (sym e ∙ told.0) ∙ ap (λ n. scalar_at mode found.0 n) (sym told.1))

pub pair_reads : (pairs : Pairs) (a b code : ℕ) → pairs.is_lead a ≡ true → pairs.both a b ≡ One code → (mode : Mode) (rest : List ℕ) → pairs_unit pairs mode (a ∷ b ∷ rest) ≡ scalar_at mode code 2
unfolding pairs_unit
pair_reads pairs a b code lead e mode rest = rw (lead, e) refl
