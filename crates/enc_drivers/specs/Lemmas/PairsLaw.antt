-- The laws of codes of a lead and a byte behind it.
use Rattle.std.proofs.Common.{◌≡◌, ℕ, ◌<◌, ◌≤◌, Bool, true, false, ltb, List, [], ◌∷◌, length}
use Rattle.std.proofs.Common.{get_or, take, refl, ap, arith, length-append}
use Rattle.std.specs.Prelude.{encode_utf8, Option, Some, None}
use Rattle.std.specs.Char.{IsScalar}
use Rattle.std.proofs.lemmas.List.Elements.{All-head}
use Rattle.enc_drivers.specs.declared.unit.Item.{Item}
use Rattle.enc_drivers.specs.declared.unit.Item.TheVariants.{One, Two, Malformed, Silent}
use Rattle.enc_drivers.specs.declared.unit.Mode.{Mode}
use Rattle.enc_drivers.specs.Units.{scalar_at, IsCode, IsUnitOf, AreBytes, HasScalars, item_text}
use Rattle.enc_drivers.specs.Codes.Pairs.{Pairs, ascii_alone, item_found, both_len, pairs_unit}
use Rattle.enc_drivers.specs.Lookup.{Places, FindsScalars}
use Rattle.enc_drivers.specs.Lemmas.Scalars.{scalar_low, encode_three, encode_four}

-- what a byte alone stands for has scalars up to U+FFFF, and what two bytes stand for has scalars
pub record HasItems (pairs : Pairs) : Type 0 where
  pub alone : (byte : ℕ) → byte < 256 → HasScalars (pairs.alone byte)
  pub alone_short : (byte : ℕ) → byte < 256 → length (item_text (pairs.alone byte)) ≤ 3
  pub both : (lead second : ℕ) → HasScalars (pairs.both lead second)

-- ASCII bytes are no leads, and stand for themselves
pub record HasAscii (pairs : Pairs) : Type 0 where
  pub no_lead : (byte : ℕ) → byte < 0x80 → pairs.is_lead byte ≡ false
  pub alone : (byte : ℕ) → byte < 0x80 → pairs.alone byte ≡ One byte

both_unit : (mode : Mode) (a b : ℕ) (rest : List ℕ) (item : Item) → HasScalars item → IsUnitOf (a ∷ b ∷ rest) (record { item = item; len = both_len item b; next = mode })
both_unit mode a b rest (One scalar) has =
    let four = encode_four scalar in
    record { some = omega arith; four = omega arith; within = omega arith; scalars = has; short_text = omega (arith, four) }
both_unit mode a b rest (Two first next) has =
    let one : length (encode_utf8 first) ≤ 3 = encode_three first (omega (arith, has.0.1)) in
    let two : length (encode_utf8 next) ≤ 3 = encode_three next (omega (arith, has.1.1)) in
    record { some = omega arith; four = omega arith; within = omega arith; scalars = has; short_text = rw (length-append (encode_utf8 first) (encode_utf8 next)) (omega (arith, one, two)) }
both_unit mode a b rest Malformed has = by_test (ltb b 0x80) refl
  where
    by_test : (t : Bool) → ltb b 0x80 ≡ t → IsUnitOf (a ∷ b ∷ rest) (record { item = Malformed; len = both_len Malformed b; next = mode })
    by_test true e = rw e (record { some = omega arith; four = omega arith; within = omega arith; scalars = tt; short_text = omega arith })
    by_test false e = rw e (record { some = omega arith; four = omega arith; within = omega arith; scalars = tt; short_text = omega arith })
both_unit mode a b rest Silent has = record { some = omega arith; four = omega arith; within = omega arith; scalars = tt; short_text = omega arith }

alone_unit : (pairs : Pairs) → HasItems pairs → (mode : Mode) (a : ℕ) (rest : List ℕ) → a < 256 → IsUnitOf (a ∷ rest) (record { item = pairs.alone a; len = 1; next = mode })
alone_unit pairs items mode a rest h = record {
  some = omega arith;
  four = omega arith;
  within = omega arith;
  scalars = items.alone a h;
  short_text = items.alone_short a h;
}

-- the first four bytes decide, since the first two do
same_two : (pairs : Pairs) (mode : Mode) (x y : List ℕ) → 4 ≤ length x → 4 ≤ length y → take 4 x ≡ take 4 y → pairs_unit pairs mode x ≡ pairs_unit pairs mode y
unfolding pairs_unit
same_two pairs mode (a ∷ b ∷ xs) (s ∷ t ∷ ys) h k e =
    let ea : a ≡ s = ap (λ l. get_or l 0 0) e in
    let eb : b ≡ t = ap (λ l. get_or l 1 0) e in
    rw (ea, eb) refl
same_two pairs mode (a ∷ []) y h k e = absurd (omega arith)
same_two pairs mode [] y h k e = absurd (omega arith)
same_two pairs mode (a ∷ b ∷ xs) (s ∷ []) h k e = absurd (omega arith)
same_two pairs mode (a ∷ b ∷ xs) [] h k e = absurd (omega arith)

pub pairs_law : (pairs : Pairs) → HasItems pairs → IsCode (pairs_unit pairs)
unfolding pairs_unit
pairs_law pairs items = record { each = each; first_four = first_four }
  where
    by_lead : (mode : Mode) (a b : ℕ) (rest : List ℕ) → a < 256 → (t : Bool) → pairs.is_lead a ≡ t → IsUnitOf (a ∷ b ∷ rest) (pairs_unit pairs mode (a ∷ b ∷ rest))
    by_lead mode a b rest h true e = rw e (both_unit mode a b rest (pairs.both a b) (items.both a b))
    by_lead mode a b rest h false e = rw e (alone_unit pairs items mode a (b ∷ rest) h)

    one_lead : (mode : Mode) (a : ℕ) → a < 256 → (t : Bool) → pairs.is_lead a ≡ t → IsUnitOf (a ∷ []) (pairs_unit pairs mode (a ∷ []))
    one_lead mode a h true e = rw e (record { some = omega arith; four = omega arith; within = omega arith; scalars = tt; short_text = omega arith })
    one_lead mode a h false e = rw e (alone_unit pairs items mode a [] h)

    each : (mode : Mode) (rest : List ℕ) → AreBytes rest → 0 < length rest → IsUnitOf rest (pairs_unit pairs mode rest)
    each mode [] are h = absurd (omega arith)
    each mode (a ∷ []) are h = one_lead mode a (All-head (λ c. c < 256) a [] are) (pairs.is_lead a) refl
    each mode (a ∷ b ∷ rest) are h = by_lead mode a b rest (All-head (λ c. c < 256) a (b ∷ rest) are) (pairs.is_lead a) refl

    first_four : (mode : Mode) (x y : List ℕ) → AreBytes x → AreBytes y → 4 ≤ length x → 4 ≤ length y → take 4 x ≡ take 4 y → pairs_unit pairs mode x ≡ pairs_unit pairs mode y
    first_four mode x y are bre h k e = same_two pairs mode x y h k e

-- a byte below 80 is a unit of itself
pub pairs_ascii : (pairs : Pairs) → HasAscii pairs → (mode : Mode) (byte : ℕ) (rest : List ℕ) → byte < 0x80 → pairs_unit pairs mode (byte ∷ rest) ≡ scalar_at mode byte 1
unfolding pairs_unit
pairs_ascii pairs ascii mode byte [] h = rw (ascii.no_lead byte h, ascii.alone byte h) refl
pairs_ascii pairs ascii mode byte (b ∷ rest) h = rw (ascii.no_lead byte h, ascii.alone byte h) refl

-- ASCII alone, and malformed else
pub ascii_item : (byte : ℕ) → byte < 256 → HasScalars (ascii_alone byte)
ascii_item byte h = by_test (ltb byte 0x80) refl
  where
    by_test : (t : Bool) → ltb byte 0x80 ≡ t → HasScalars (ascii_alone byte)
    by_test true e = rw e (scalar_low byte (omega arith))
    by_test false e = rw e tt

pub ascii_short : (byte : ℕ) → byte < 256 → length (item_text (ascii_alone byte)) ≤ 3
ascii_short byte h = by_test (ltb byte 0x80) refl
  where
    by_test : (t : Bool) → ltb byte 0x80 ≡ t → length (item_text (ascii_alone byte)) ≤ 3
    by_test true e = rw e (encode_three byte (omega arith))
    by_test false e = rw e (omega arith)

-- what an index of scalars has at a place
pub found_scalars : (places : Places) → FindsScalars places → (place : ℕ) → HasScalars (item_found (places place))
found_scalars places finds place = by_case (places place) refl
  where
    by_case : (o : Option ℕ) → places place ≡ o → HasScalars (item_found (places place))
    by_case (Some c) e = let is : IsScalar c = finds place c e in rw e is
    by_case None e = rw e tt
