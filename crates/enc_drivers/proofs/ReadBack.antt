-- What an encoder writes of a scalar is read as that scalar.
use Rattle.std.proofs.Common.{◌≡◌, ℕ, ◌+◌, ◌-◌, ◌<◌, Bool, true, false, List, [], ◌∷◌, ◌++◌, length, refl, ap, sym, ◌∙◌, arith}
use Rattle.std.specs.Prelude.{nat_le, nat_lt, ◌&&◌, ◌==◌, Option, Some, None, option_map, encode_utf8}
use Rattle.std.specs.Char.{IsScalar}
use Rattle.std.proofs.lemmas.Bool.{eqb-true, ltb-true, and_parts}
use Rattle.std.proofs.lemmas.Bool.Decides.{nat_tests}
use Rattle.enc_drivers.specs.declared.unit.Item.TheVariants.{One, Malformed}
use Rattle.enc_drivers.specs.declared.unit.Mode.{Mode}
use Rattle.enc_drivers.specs.Lookup.{Places, least_place}
use Rattle.enc_drivers.specs.Units.{Code, scalar_at}
use Rattle.enc_drivers.specs.Encode.{ReadsBack}
use Rattle.enc_drivers.specs.Codes.Pairs.{item_found}
use Rattle.enc_drivers.specs.Codes.Utf8.{utf8_unit, utf8_bytes_of}
use Rattle.enc_drivers.specs.Codes.SingleByte.{single_byte_item, single_byte_unit, single_byte_bytes_of}
use Rattle.enc_drivers.specs.Codes.Windows1252.{windows_1252_scalar, windows_1252_unit, windows_1252_places, windows_1252_bytes_of}
use Rattle.enc_drivers.specs.Codes.UserDefined.{user_defined_scalar, user_defined_unit, user_defined_bytes_of}
use Rattle.enc_drivers.specs.Codes.EucKr.{euc_kr_bytes, euc_kr_unit, euc_kr_bytes_of}
use Rattle.enc_drivers.specs.Codes.EucJp.{euc_jp_scalar, euc_jp_bytes, minus_as_hyphen, euc_jp_unit, euc_jp_bytes_of}
use Rattle.enc_drivers.specs.Codes.Gb18030.{gb18030_bytes, ranges_bytes, gb18030_place_bytes, gb18030_unit, gb18030_bytes_of}
use Rattle.enc_drivers.specs.Codes.Sequence.{sequence_unit}
use Rattle.enc_drivers.specs.Lemmas.EucKrLaw.{euc_kr_ascii}
use Rattle.enc_drivers.proofs.EucJpSteps as euc
use Rattle.enc_drivers.proofs.Gb18030Steps as gb
use Rattle.enc_drivers.proofs.FoundPlaces.{IsFound, place_found}
use Rattle.enc_drivers.proofs.MultiBytePlaces.{euc_jp_read_back, gb18030_read_back, gb18030_read_back_of_four}
use Rattle.enc_drivers.proofs.OneByte.{windows_1252_ascii, user_defined_ascii}
use Rattle.enc_drivers.proofs.PairPlaces.{euc_kr_read_back}
use Rattle.enc_drivers.proofs.Utf8RoundTrip.{utf8_round_trip}

-- these bytes are read as the scalar
abbrev IsRead : Code → Mode → ℕ → List ℕ → Type 0
IsRead unit mode scalar bytes = (rest : List ℕ) → unit mode (bytes ++ rest) ≡ scalar_at mode scalar (length bytes)

-- bytes that are given are those that are known
given : (unit : Code) (mode : Mode) (scalar : ℕ) (known bytes : List ℕ) (o : Option (List ℕ)) → o ≡ Some bytes → o ≡ Some known → IsRead unit mode scalar known → IsRead unit mode scalar bytes
given unit mode scalar known bytes o h is read =
    let same : known ≡ bytes = some_same (sym is ∙ h) in
    λ rest. rw (← same) (read rest)
  where
    some_same : Some known ≡ Some bytes → known ≡ bytes
    some_same e = cc

nothing : {A : Type 0} (bytes : List ℕ) (o : Option (List ℕ)) → o ≡ Some bytes → o ≡ None → A
nothing bytes o h is = absurd (let e : None ≡ Some bytes = sym is ∙ h in cc)

-- the bytes of a place that was found
placed : (unit : Code) (mode : Mode) (scalar : ℕ) (bytes : List ℕ) (o : Option (List ℕ)) (f : ℕ → List ℕ) (places : Places) (looked below : ℕ) (found : Option ℕ)
    → least_place places looked below ≡ found → o ≡ Some bytes → o ≡ option_map f found
    → ((place : ℕ) → IsFound places looked below place → IsRead unit mode scalar (f place)) → IsRead unit mode scalar bytes
placed unit mode scalar bytes o f places looked below None e h is read = nothing bytes o h is
placed unit mode scalar bytes o f places looked below (Some place) e h is read =
    given unit mode scalar (f place) bytes o h is (read place (place_found places looked below place e))

pub utf8_read : (scalar : ℕ) → IsScalar scalar → ReadsBack utf8_unit utf8_bytes_of scalar
unfolding utf8_bytes_of
utf8_read scalar is mode bytes rest h =
    given utf8_unit mode scalar (encode_utf8 scalar) bytes (utf8_bytes_of scalar) h refl (λ more. utf8_round_trip mode scalar more is) rest

single_byte_of : (places : Places) (mode : Mode) (place scalar : ℕ) → places place ≡ Some scalar → IsRead (single_byte_unit places) mode scalar ((place + 0x80) ∷ [])
unfolding single_byte_unit single_byte_item
single_byte_of places mode place scalar is rest =
    let high : nat_lt (place + 0x80) 0x80 ≡ false = grind (arith, nat_tests) in
    let back : place + 0x80 - 0x80 ≡ place = omega arith in
    rw (high, back, is) refl

single_byte_ascii : (places : Places) (mode : Mode) (scalar : ℕ) → scalar < 0x80 → IsRead (single_byte_unit places) mode scalar (scalar ∷ [])
unfolding single_byte_unit single_byte_item
single_byte_ascii places mode scalar h rest = let test : nat_lt scalar 0x80 ≡ true = grind (arith, nat_tests) in rw test refl

-- an encoder over an index of one byte, and a code that reads its bytes
single_read : (unit : Code) (places : Places) → ((mode : Mode) (scalar : ℕ) → scalar < 0x80 → IsRead unit mode scalar (scalar ∷ []))
    → ((mode : Mode) (place scalar : ℕ) → place < 128 → places place ≡ Some scalar → IsRead unit mode scalar ((place + 0x80) ∷ []))
    → (scalar : ℕ) → ReadsBack unit (single_byte_bytes_of places) scalar
unfolding single_byte_bytes_of
single_read unit places ascii other scalar mode bytes rest h = by_test (nat_lt scalar 0x80) refl rest
  where
    by_test : (t : Bool) → nat_lt scalar 0x80 ≡ t → IsRead unit mode scalar bytes
    by_test true e = given unit mode scalar (scalar ∷ []) bytes (single_byte_bytes_of places scalar) h (rw e refl) (ascii mode scalar (ltb-true scalar 0x80 e))
    by_test false e =
        placed unit mode scalar bytes (single_byte_bytes_of places scalar) (λ place. (place + 0x80) ∷ []) places scalar 128 (least_place places scalar 128) refl h (rw e refl)
        (λ place found. other mode place scalar found.within found.here)

pub single_byte_read : (places : Places) (scalar : ℕ) → ReadsBack (single_byte_unit places) (single_byte_bytes_of places) scalar
single_byte_read places = single_read (single_byte_unit places) places (single_byte_ascii places) (λ mode place scalar below is. single_byte_of places mode place scalar is)

pub windows_1252_read : (scalar : ℕ) → ReadsBack windows_1252_unit windows_1252_bytes_of scalar
unfolding windows_1252_unit
windows_1252_read =
    single_read windows_1252_unit windows_1252_places (λ mode scalar h rest. windows_1252_ascii mode scalar rest h)
    (λ mode place scalar below is rest. let same : windows_1252_scalar (place + 0x80) ≡ scalar = cc in ap (λ s. scalar_at mode s 1) same)

pub user_defined_read : (scalar : ℕ) → ReadsBack user_defined_unit user_defined_bytes_of scalar
unfolding user_defined_bytes_of user_defined_unit user_defined_scalar
user_defined_read scalar mode bytes rest h = by_tests (nat_lt scalar 0x80) refl (nat_le 0xF780 scalar && nat_le scalar 0xF7FF) refl rest
  where
    high : (nat_le 0xF780 scalar && nat_le scalar 0xF7FF) ≡ true → IsRead user_defined_unit mode scalar ((scalar - 0xF780 + 0x80) ∷ [])
    high f more =
        let test : nat_lt (scalar - 0xF780 + 0x80) 0x80 ≡ false = grind (arith, nat_tests) in
        let back : 0xF780 + (scalar - 0xF780 + 0x80 - 0x80) ≡ scalar = grind (arith, nat_tests) in
        rw (test, back) refl

    by_tests : (t : Bool) → nat_lt scalar 0x80 ≡ t → (s : Bool) → (nat_le 0xF780 scalar && nat_le scalar 0xF7FF) ≡ s → IsRead user_defined_unit mode scalar bytes
    by_tests true e s f =
        given user_defined_unit mode scalar (scalar ∷ []) bytes (user_defined_bytes_of scalar) h (rw e refl) (λ more. user_defined_ascii mode scalar more (ltb-true scalar 0x80 e))
    by_tests false e true f = given user_defined_unit mode scalar ((scalar - 0xF780 + 0x80) ∷ []) bytes (user_defined_bytes_of scalar) h (rw (e, f) refl) (high f)
    by_tests false e false f = nothing bytes (user_defined_bytes_of scalar) h (rw (e, f) refl)

pub euc_kr_read : (places : Places) (scalar : ℕ) → ReadsBack (euc_kr_unit places) (euc_kr_bytes_of places) scalar
unfolding euc_kr_bytes_of
euc_kr_read places scalar mode bytes rest h = by_test (nat_lt scalar 0x80) refl rest
  where
    at_place : (place : ℕ) → IsFound places scalar 23940 place → IsRead (euc_kr_unit places) mode scalar (euc_kr_bytes place)
    at_place place found more =
        let item : item_found (places place) ≡ One scalar = rw found.here refl in
        euc_kr_read_back places mode place more found.within (λ e. let z : One scalar ≡ Malformed = sym item ∙ e in cc)
        ∙ ap (λ i. record { item = i; len = 2; next = mode }) item

    by_test : (t : Bool) → nat_lt scalar 0x80 ≡ t → IsRead (euc_kr_unit places) mode scalar bytes
    by_test true e =
        given (euc_kr_unit places) mode scalar (scalar ∷ []) bytes (euc_kr_bytes_of places scalar) h (rw e refl)
        (λ more. euc_kr_ascii places mode scalar more (ltb-true scalar 0x80 e))
    by_test false e =
        placed (euc_kr_unit places) mode scalar bytes (euc_kr_bytes_of places scalar) euc_kr_bytes places scalar 23940 (least_place places scalar 23940) refl h (rw e refl) at_place

-- half-width katakana
kana : (p q : Places) (mode : Mode) (scalar : ℕ) → (nat_le 0xFF61 scalar && nat_le scalar 0xFF9F) ≡ true → IsRead (euc_jp_unit p q) mode scalar (0x8E ∷ (scalar - 0xFF61 + 0xA1) ∷ [])
unfolding euc_jp_scalar
kana p q mode scalar f more =
    let second = scalar - 0xFF61 + 0xA1 in
    let begins : euc.BeginsSequence (0x8E ∷ (scalar - 0xFF61 + 0xA1) ∷ []) = record { some = omega arith; high = omega arith; lead = refl } in
    let test : (nat_le 0xA1 (scalar - 0xFF61 + 0xA1) && nat_le (scalar - 0xFF61 + 0xA1) 0xDF) ≡ true = grind (arith, nat_tests) in
    let back : 0xFF61 + (scalar - 0xFF61 + 0xA1 - 0xA1) ≡ scalar = grind (arith, nat_tests) in
    let is : euc_jp_scalar p 0x8E (scalar - 0xFF61 + 0xA1) ≡ Some scalar = rw (test, back) refl in
    euc.two_front p q mode (0x8E ∷ (scalar - 0xFF61 + 0xA1) ∷ []) more begins (omega arith) refl
    ∙ ap (λ o. sequence_unit mode o 2 (scalar - 0xFF61 + 0xA1)) is

pub euc_jp_read : (jis0208 jis0212 : Places) (scalar : ℕ) → ¬ (scalar ≡ 0xA5) → ¬ (scalar ≡ 0x203E) → ¬ (scalar ≡ 0x2212)
    → ReadsBack (euc_jp_unit jis0208 jis0212) (euc_jp_bytes_of jis0208) scalar
unfolding euc_jp_bytes_of
euc_jp_read p q scalar no_yen no_line no_minus mode bytes rest h =
    by_tests (nat_lt scalar 0x80) refl (scalar == 0xA5) refl (scalar == 0x203E) refl (nat_le 0xFF61 scalar && nat_le scalar 0xFF9F) refl rest
  where
    itself : minus_as_hyphen scalar ≡ scalar
    itself = let test : (scalar == 0x2212) ≡ false = grind (arith, nat_tests) in rw test refl

    at_place : (place : ℕ) → IsFound p (minus_as_hyphen scalar) 8836 place → IsRead (euc_jp_unit p q) mode scalar (euc_jp_bytes place)
    at_place place found more = euc_jp_read_back p q mode place scalar more found.within (found.here ∙ ap Some itself)

    by_tests : (t : Bool) → nat_lt scalar 0x80 ≡ t → (s : Bool) → (scalar == 0xA5) ≡ s → (r : Bool) → (scalar == 0x203E) ≡ r
        → (k : Bool) → (nat_le 0xFF61 scalar && nat_le scalar 0xFF9F) ≡ k → IsRead (euc_jp_unit p q) mode scalar bytes
    by_tests true e s f r g k j =
        given (euc_jp_unit p q) mode scalar (scalar ∷ []) bytes (euc_jp_bytes_of p scalar) h (rw e refl)
        (λ more. euc.ascii_front p q mode (scalar ∷ []) more (omega arith) (ltb-true scalar 0x80 e))
    by_tests false e true f r g k j = absurd (no_yen (eqb-true scalar 0xA5 f))
    by_tests false e false f true g k j = absurd (no_line (eqb-true scalar 0x203E g))
    by_tests false e false f false g true j =
        given (euc_jp_unit p q) mode scalar (0x8E ∷ (scalar - 0xFF61 + 0xA1) ∷ []) bytes (euc_jp_bytes_of p scalar) h (rw (e, f, g, j) refl) (kana p q mode scalar j)
    by_tests false e false f false g false j =
        placed (euc_jp_unit p q) mode scalar bytes (euc_jp_bytes_of p scalar) euc_jp_bytes p (minus_as_hyphen scalar) 8836
        (least_place p (minus_as_hyphen scalar) 8836) refl h (rw (e, f, g, j) refl) at_place

pub gb18030_read : (gbk : Bool) (index ranges : Places) (scalar : ℕ) → ReadsBack (gb18030_unit index ranges) (gb18030_bytes_of gbk index ranges) scalar
unfolding gb18030_bytes_of
gb18030_read gbk p q scalar mode bytes rest h = by_tests (nat_lt scalar 0x80) refl (scalar == 0xE5E5) refl (gbk && scalar == 0x20AC) refl rest
  where
    of_four : (place : ℕ) → IsFound q scalar 1237576 place → IsRead (gb18030_unit p q) mode scalar (ranges_bytes place)
    of_four place found more = gb18030_read_back_of_four p q mode place scalar more (omega (arith, found.within)) found.here

    without_place : (g : Bool) → gb18030_place_bytes g q scalar None ≡ Some bytes → IsRead (gb18030_unit p q) mode scalar bytes
    without_place true k = nothing bytes None k refl
    without_place false k =
        placed (gb18030_unit p q) mode scalar bytes (option_map ranges_bytes (least_place q scalar 1237576)) ranges_bytes q scalar 1237576 (least_place q scalar 1237576) refl k refl of_four

    by_place : (o : Option ℕ) → least_place p scalar 23940 ≡ o → gb18030_place_bytes gbk q scalar o ≡ Some bytes → IsRead (gb18030_unit p q) mode scalar bytes
    by_place (Some place) e k =
        let found = place_found p scalar 23940 place e in
        given (gb18030_unit p q) mode scalar (gb18030_bytes place) bytes (Some (gb18030_bytes place)) k refl
        (λ more. gb18030_read_back p q mode place scalar more found.within found.here)
    by_place None e k = without_place gbk k

    euro : (gbk && scalar == 0x20AC) ≡ true → scalar ≡ 0x20AC
    euro e = eqb-true scalar 0x20AC (and_parts gbk (scalar == 0x20AC) e).1

    given_place : nat_lt scalar 0x80 ≡ false → (scalar == 0xE5E5) ≡ false → (gbk && scalar == 0x20AC) ≡ false → gb18030_place_bytes gbk q scalar (least_place p scalar 23940) ≡ Some bytes
    given_place e f g = rw (e, f, g) at h

    by_tests : (t : Bool) → nat_lt scalar 0x80 ≡ t → (s : Bool) → (scalar == 0xE5E5) ≡ s → (r : Bool) → (gbk && scalar == 0x20AC) ≡ r → IsRead (gb18030_unit p q) mode scalar bytes
    by_tests true e s f r g =
        given (gb18030_unit p q) mode scalar (scalar ∷ []) bytes (gb18030_bytes_of gbk p q scalar) h (rw e refl)
        (λ more. gb.ascii_front p q mode (scalar ∷ []) more (omega arith) (ltb-true scalar 0x80 e))
    by_tests false e true f r g = nothing bytes (gb18030_bytes_of gbk p q scalar) h (rw (e, f) refl)
    by_tests false e false f true g =
        given (gb18030_unit p q) mode scalar (0x80 ∷ []) bytes (gb18030_bytes_of gbk p q scalar) h (rw (e, f, g) refl)
        (λ more. gb.euro_front p q mode (0x80 ∷ []) more (omega arith) refl ∙ ap (λ s. scalar_at mode s 1) (sym (euro g)))
    by_tests false e false f false g = by_place (least_place p scalar 23940) refl (given_place e f g)
