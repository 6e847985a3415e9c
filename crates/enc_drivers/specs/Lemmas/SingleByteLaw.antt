-- The laws of the encodings of one byte a scalar.
use Rattle.std.proofs.Common.{◌≡◌, ℕ, zero, suc, ◌+◌, ◌-◌, ◌<◌, ◌≤◌, Bool, true, false, List, []}
use Rattle.std.proofs.Common.{◌∷◌, length, get_or, take, refl, ap, arith, lit<, ltb-true}
use Rattle.std.specs.Prelude.{nat_le, nat_lt, ◌&&◌, Option, Some, None}
use Rattle.std.specs.List.{list_all}
use Rattle.std.specs.Char.{IsScalar}
use Rattle.std.proofs.lemmas.Bool.{and_parts}
use Rattle.std.proofs.lemmas.List.Elements.{All-head}
use Rattle.enc_drivers.specs.declared.unit.Mode.{Mode}
use Rattle.enc_drivers.specs.Units.{scalar_at, IsCode, IsUnitOf, AreBytes, HasScalars, item_text}
use Rattle.enc_drivers.specs.Lookup.{Places, FindsScalars, HasNoAstral}
use Rattle.enc_drivers.specs.Codes.Windows1252.{windows_1252_table, windows_1252_scalar}
use Rattle.enc_drivers.specs.Codes.Windows1252.{windows_1252_unit}
use Rattle.enc_drivers.specs.Codes.UserDefined.{user_defined_scalar, user_defined_unit}
use Rattle.enc_drivers.specs.Codes.SingleByte.{single_byte_item, single_byte_unit}
use Rattle.enc_drivers.specs.Lemmas.Scalars.{scalar_low, scalar_high, encode_three}

-- each entry of a table, by a test that computes
small_entry : (xs : List ℕ) → list_all (λ c. nat_lt c 0xD800) xs ≡ true → (k : ℕ) → get_or xs k 0 < 0xD800
small_entry [] e k = lit< tt
small_entry (x ∷ xs) e zero = ltb-true x 0xD800 (and_parts (nat_lt x 0xD800) (list_all (λ c. nat_lt c 0xD800) xs) e).0
small_entry (x ∷ xs) e (suc k) = small_entry xs (and_parts (nat_lt x 0xD800) (list_all (λ c. nat_lt c 0xD800) xs) e).1 k

windows_1252_low : (b : ℕ) → b < 256 → windows_1252_scalar b < 0xD800
unfolding windows_1252_scalar
windows_1252_low b h = by_test (nat_le 0x80 b && nat_le b 0x9F) refl
  where
    by_test : (t : Bool) → (nat_le 0x80 b && nat_le b 0x9F) ≡ t → windows_1252_scalar b < 0xD800
    by_test true e = rw e (small_entry windows_1252_table refl (b - 0x80))
    by_test false e = rw e (omega arith)

user_defined_range : (b : ℕ) → b < 256 → IsScalar (user_defined_scalar b) × (user_defined_scalar b < 0x10000)
unfolding user_defined_scalar
user_defined_range b h = by_test (nat_lt b 0x80) refl
  where
    by_test : (t : Bool) → nat_lt b 0x80 ≡ t → IsScalar (user_defined_scalar b) × (user_defined_scalar b < 0x10000)
    by_test true e = rw e (scalar_low b (omega arith), omega arith)
    by_test false e = rw e (scalar_high (0xF780 + (b - 0x80)) (omega arith) (omega arith), omega arith)

-- a scalar of one byte that has at most three bytes of UTF-8
one_byte : (mode : Mode) (b c : ℕ) (rest : List ℕ) → IsScalar c → c < 0x10000 → IsUnitOf (b ∷ rest) (scalar_at mode c 1)
one_byte mode b c rest s h = record {
  some = omega arith;
  four = omega arith;
  within = omega arith;
  scalars = s;
  short_text = encode_three c h;
}

-- the first of four bytes that decide
same_head : (x y : ℕ) (xs ys : List ℕ) → take 4 (x ∷ xs) ≡ take 4 (y ∷ ys) → x ≡ y
same_head x y xs ys e = ap (λ t. get_or t 0 0) e

pub windows_1252_law : IsCode windows_1252_unit
unfolding windows_1252_unit
windows_1252_law = record { each = each; first_four = first_four }
  where
    each : (mode : Mode) (rest : List ℕ) → AreBytes rest → 0 < length rest → IsUnitOf rest (windows_1252_unit mode rest)
    each mode [] are h = absurd (omega arith)
    each mode (b ∷ rest) are h =
        let low : windows_1252_scalar b < 0xD800 = windows_1252_low b (All-head (λ c. c < 256) b rest are) in
        one_byte mode b (windows_1252_scalar b) rest (scalar_low (windows_1252_scalar b) low) (omega arith)

    first_four : (mode : Mode) (a b : List ℕ) → AreBytes a → AreBytes b → 4 ≤ length a → 4 ≤ length b → take 4 a ≡ take 4 b → windows_1252_unit mode a ≡ windows_1252_unit mode b
    first_four mode [] b are bre h k e = absurd (omega arith)
    first_four mode (x ∷ xs) [] are bre h k e = absurd (omega arith)
    first_four mode (x ∷ xs) (y ∷ ys) are bre h k e = ap (λ z. scalar_at mode (windows_1252_scalar z) 1) (same_head x y xs ys e)

pub user_defined_law : IsCode user_defined_unit
unfolding user_defined_unit
user_defined_law = record { each = each; first_four = first_four }
  where
    each : (mode : Mode) (rest : List ℕ) → AreBytes rest → 0 < length rest → IsUnitOf rest (user_defined_unit mode rest)
    each mode [] are h = absurd (omega arith)
    each mode (b ∷ rest) are h =
        let range = user_defined_range b (All-head (λ c. c < 256) b rest are) in
        one_byte mode b (user_defined_scalar b) rest range.0 range.1

    first_four : (mode : Mode) (a b : List ℕ) → AreBytes a → AreBytes b → 4 ≤ length a → 4 ≤ length b → take 4 a ≡ take 4 b → user_defined_unit mode a ≡ user_defined_unit mode b
    first_four mode [] b are bre h k e = absurd (omega arith)
    first_four mode (x ∷ xs) [] are bre h k e = absurd (omega arith)
    first_four mode (x ∷ xs) (y ∷ ys) are bre h k e = ap (λ z. scalar_at mode (user_defined_scalar z) 1) (same_head x y xs ys e)

single_byte_item_is : (places : Places) (b : ℕ) → b < 256 → FindsScalars places → HasNoAstral places → HasScalars (single_byte_item places b) × (length (item_text (single_byte_item places b)) ≤ 3)
unfolding single_byte_item
single_byte_item_is places b h finds narrow = by_test (nat_lt b 0x80) refl (places (b - 0x80)) refl
  where
    by_test : (t : Bool) → nat_lt b 0x80 ≡ t → (o : Option ℕ) → places (b - 0x80) ≡ o → HasScalars (single_byte_item places b) × (length (item_text (single_byte_item places b)) ≤ 3)
    by_test true e o f = rw e (scalar_low b (omega arith), encode_three b (omega arith))
    by_test false e (Some c) f =
        let scalar : IsScalar c = finds (b - 0x80) c f in
        let small : c < 0x10000 = narrow (b - 0x80) c f in
        rw (e, f) (scalar, encode_three c small)
    by_test false e None f = rw (e, f) (tt, omega arith)

pub single_byte_law : (places : Places) → FindsScalars places → HasNoAstral places → IsCode (single_byte_unit places)
unfolding single_byte_unit
single_byte_law places finds narrow = record { each = each; first_four = first_four }
  where
    each : (mode : Mode) (rest : List ℕ) → AreBytes rest → 0 < length rest → IsUnitOf rest (single_byte_unit places mode rest)
    each mode [] are h = absurd (omega arith)
    each mode (b ∷ rest) are h =
        let is = single_byte_item_is places b (All-head (λ c. c < 256) b rest are) finds narrow in
        record {
          some = omega arith;
          four = omega arith;
          within = omega arith;
          scalars = is.0;
          short_text = is.1;
        }

    first_four : (mode : Mode) (a b : List ℕ) → AreBytes a → AreBytes b → 4 ≤ length a → 4 ≤ length b → take 4 a ≡ take 4 b → single_byte_unit places mode a ≡ single_byte_unit places mode b
    first_four mode [] b are bre h k e = absurd (omega arith)
    first_four mode (x ∷ xs) [] are bre h k e = absurd (omega arith)
    first_four mode (x ∷ xs) (y ∷ ys) are bre h k e = ap (λ z. record { item = single_byte_item places z; len = 1; next = mode }) (same_head x y xs ys e)
