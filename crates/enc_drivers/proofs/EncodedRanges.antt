-- Which scalars have bytes: ASCII has itself, and an index without a scalar above U+FFFF gives no bytes of one.
use Rattle.std.proofs.Common.{◌≡◌, ℕ, ◌+◌, ◌<◌, ◌≤◌, Bool, true, false, refl, ap, arith}
use Rattle.std.specs.Prelude.{nat_le, nat_lt, ◌&&◌, ◌==◌, Option, Some, None}
use Rattle.std.proofs.lemmas.Bool.Decides.{nat_tests}
use Rattle.std.proofs.lemmas.Bool.{agree_below_at, ltb-true}
use Rattle.enc_drivers.specs.Lookup.{Places, HasNoAstral, least_place}
use Rattle.enc_drivers.specs.Encode.{IsAsciiCompatible, MapsNoAstral}
use Rattle.enc_drivers.specs.Codes.Utf8.{utf8_bytes_of}
use Rattle.enc_drivers.specs.Codes.SingleByte.{single_byte_bytes_of}
use Rattle.enc_drivers.specs.Codes.Windows1252.{windows_1252_scalar, windows_1252_places, windows_1252_bytes_of}
use Rattle.enc_drivers.specs.Codes.UserDefined.{user_defined_bytes_of}
use Rattle.enc_drivers.specs.Codes.EucKr.{euc_kr_bytes_of}
use Rattle.enc_drivers.specs.Codes.EucJp.{minus_as_hyphen, euc_jp_bytes_of}
use Rattle.enc_drivers.specs.Codes.Gb18030.{gb18030_bytes_of}
use Rattle.enc_drivers.proofs.FoundPlaces.{place_found}
use Rattle.enc_handles.proofs.TextLemmas.{encode_one}

below_80 : (scalar : ℕ) → scalar < 0x80 → nat_lt scalar 0x80 ≡ true
below_80 scalar h = grind (arith, nat_tests)

not_below_80 : (scalar : ℕ) → 0x10000 ≤ scalar → nat_lt scalar 0x80 ≡ false
not_below_80 scalar h = grind (arith, nat_tests)

pub utf8_ascii : IsAsciiCompatible utf8_bytes_of
unfolding utf8_bytes_of
utf8_ascii scalar h = ap Some (encode_one scalar h)

pub single_byte_ascii : (places : Places) → IsAsciiCompatible (single_byte_bytes_of places)
unfolding single_byte_bytes_of
single_byte_ascii places scalar h = rw (below_80 scalar h) refl

pub user_defined_ascii : IsAsciiCompatible user_defined_bytes_of
unfolding user_defined_bytes_of
user_defined_ascii scalar h = rw (below_80 scalar h) refl

pub euc_kr_ascii : (places : Places) → IsAsciiCompatible (euc_kr_bytes_of places)
unfolding euc_kr_bytes_of
euc_kr_ascii places scalar h = rw (below_80 scalar h) refl

pub euc_jp_ascii : (jis0208 : Places) → IsAsciiCompatible (euc_jp_bytes_of jis0208)
unfolding euc_jp_bytes_of
euc_jp_ascii jis0208 scalar h = rw (below_80 scalar h) refl

pub gb18030_ascii : (gbk : Bool) (index ranges : Places) → IsAsciiCompatible (gb18030_bytes_of gbk index ranges)
unfolding gb18030_bytes_of
gb18030_ascii gbk index ranges scalar h = rw (below_80 scalar h) refl

-- no place of such an index has an astral scalar
nowhere : (places : Places) (scalar below : ℕ) → HasNoAstral places → 0x10000 ≤ scalar → least_place places scalar below ≡ None
nowhere places scalar below narrow h = by_found (least_place places scalar below) refl
  where
    by_found : (o : Option ℕ) → least_place places scalar below ≡ o → least_place places scalar below ≡ None
    by_found None e = e
    by_found (Some place) e =
        let found = place_found places scalar below place e in
        let small = narrow place scalar found.here in
        absurd (omega arith)

pub single_byte_narrow : (places : Places) → HasNoAstral places → MapsNoAstral (single_byte_bytes_of places)
unfolding single_byte_bytes_of
single_byte_narrow places narrow scalar h = rw (not_below_80 scalar h, nowhere places scalar 128 narrow h) refl

-- nor has windows-1252, at the places that are looked at
windows_1252_small : (place : ℕ) → place < 128 → windows_1252_scalar (place + 0x80) < 0x10000
unfolding windows_1252_scalar
windows_1252_small place h = ltb-true (windows_1252_scalar (place + 0x80)) 0x10000 (agree_below_at (λ k. nat_lt (windows_1252_scalar (k + 0x80)) 0x10000) (λ k. true) 128 place refl h)

pub windows_1252_narrow : MapsNoAstral windows_1252_bytes_of
unfolding single_byte_bytes_of
windows_1252_narrow scalar h = rw (not_below_80 scalar h, none (least_place windows_1252_places scalar 128) refl) refl
  where
    none : (o : Option ℕ) → least_place windows_1252_places scalar 128 ≡ o → least_place windows_1252_places scalar 128 ≡ None
    none None e = e
    none (Some place) e =
        let found = place_found windows_1252_places scalar 128 place e in
        let same : windows_1252_scalar (place + 0x80) ≡ scalar = let e : Some (windows_1252_scalar (place + 0x80)) ≡ Some scalar = found.here in cc in
        let small = windows_1252_small place found.within in
        absurd (omega arith)

pub user_defined_narrow : MapsNoAstral user_defined_bytes_of
unfolding user_defined_bytes_of
user_defined_narrow scalar h =
    let out : (nat_le 0xF780 scalar && nat_le scalar 0xF7FF) ≡ false = grind (arith, nat_tests) in
    rw (not_below_80 scalar h, out) refl

pub euc_kr_narrow : (places : Places) → HasNoAstral places → MapsNoAstral (euc_kr_bytes_of places)
unfolding euc_kr_bytes_of
euc_kr_narrow places narrow scalar h = rw (not_below_80 scalar h, nowhere places scalar 23940 narrow h) refl

pub euc_jp_narrow : (jis0208 : Places) → HasNoAstral jis0208 → MapsNoAstral (euc_jp_bytes_of jis0208)
unfolding euc_jp_bytes_of
euc_jp_narrow jis0208 narrow scalar h =
    let yen : (scalar == 0xA5) ≡ false = grind (arith, nat_tests) in
    let line : (scalar == 0x203E) ≡ false = grind (arith, nat_tests) in
    let kana : (nat_le 0xFF61 scalar && nat_le scalar 0xFF9F) ≡ false = grind (arith, nat_tests) in
    let minus : (scalar == 0x2212) ≡ false = grind (arith, nat_tests) in
    let itself : minus_as_hyphen scalar ≡ scalar = rw minus refl in
    rw (not_below_80 scalar h, yen, line, kana, itself, nowhere jis0208 scalar 8836 narrow h) refl
