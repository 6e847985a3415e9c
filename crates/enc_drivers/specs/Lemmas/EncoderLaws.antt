-- The laws of the encoders: a scalar that has bytes has one to as many as the encoder says.
use Rattle.std.proofs.Common.{◌≡◌, ℕ, suc, ◌+◌, ◌-◌, ◌≤◌, Bool, true, false, List, [], ◌∷◌, length}
use Rattle.std.proofs.Common.{refl, arith}
use Rattle.std.specs.Prelude.{nat_le, nat_lt, ◌&&◌, ◌==◌, Option, Some, None, option_map}
use Rattle.std.specs.Prelude.{encode_utf8}
use Rattle.std.specs.Option.{ForSome}
use Rattle.std.proofs.lemmas.Bool.Decides.{nat_tests}
use Rattle.std.proofs.lemmas.Str.{length-encode}
use Rattle.enc_drivers.specs.Lookup.{Places, least_place}
use Rattle.enc_drivers.specs.Encode.{IsFromOneTo, IsEncoder}
use Rattle.enc_drivers.specs.Lemmas.Scalars.{encode_four}
use Rattle.enc_drivers.specs.Codes.Utf8.{utf8_bytes_of}
use Rattle.enc_drivers.specs.Codes.SingleByte.{single_byte_bytes_of}
use Rattle.enc_drivers.specs.Codes.Windows1252.{windows_1252_places, windows_1252_bytes_of}
use Rattle.enc_drivers.specs.Codes.UserDefined.{user_defined_bytes_of}
use Rattle.enc_drivers.specs.Codes.EucKr.{euc_kr_bytes, euc_kr_bytes_of}
use Rattle.enc_drivers.specs.Codes.EucJp.{euc_jp_bytes, minus_as_hyphen, euc_jp_bytes_of}
use Rattle.enc_drivers.specs.Codes.Gb18030.{gb18030_bytes, ranges_bytes, gb18030_place_bytes}
use Rattle.enc_drivers.specs.Codes.Gb18030.{gb18030_bytes_of}

-- an encoder's answer is none, or has one to max bytes
abbrev IsFew : ℕ → Option (List ℕ) → Type 0
IsFew max answer = ForSome answer (λ bytes. IsFromOneTo max bytes)

few_none : (max : ℕ) → IsFew max None
few_none max = λ v e. cc

few_some : (max : ℕ) (bytes : List ℕ) → 1 ≤ length bytes → length bytes ≤ max → IsFew max (Some bytes)
few_some max bytes h k = λ v e. let same : bytes ≡ v = cc in rw (← same) (record { some = h; few = k })

few_map : (max n : ℕ) (f : ℕ → List ℕ) → ((place : ℕ) → length (f place) ≡ suc n) → suc n ≤ max → (o : Option ℕ) → IsFew max (option_map f o)
few_map max n f len h None = few_none max
few_map max n f len h (Some place) = few_some max (f place) (omega (arith, len place)) (omega (arith, len place))

pub utf8_encoder : IsEncoder 4 utf8_bytes_of
unfolding utf8_bytes_of
utf8_encoder = record { four = omega arith; each = λ c. few_some 4 (encode_utf8 c) (rw (length-encode c) (grind (arith, nat_tests))) (encode_four c) }

pub single_byte_encoder : (places : Places) → IsEncoder 1 (single_byte_bytes_of places)
unfolding single_byte_bytes_of
single_byte_encoder places = record { four = omega arith; each = λ c. by_test c (nat_lt c 0x80) refl }
  where
    by_test : (c : ℕ) (t : Bool) → nat_lt c 0x80 ≡ t → IsFew 1 (single_byte_bytes_of places c)
    by_test c true e = rw e (few_some 1 (c ∷ []) (omega arith) (omega arith))
    by_test c false e = rw e (few_map 1 0 (λ place. (place + 0x80) ∷ []) (λ place. refl) (omega arith) (least_place places c 128))

pub windows_1252_encoder : IsEncoder 1 windows_1252_bytes_of
windows_1252_encoder = single_byte_encoder windows_1252_places

pub user_defined_encoder : IsEncoder 1 user_defined_bytes_of
unfolding user_defined_bytes_of
user_defined_encoder = record { four = omega arith; each = λ c. by_tests c (nat_lt c 0x80) refl (nat_le 0xF780 c && nat_le c 0xF7FF) refl }
  where
    by_tests : (c : ℕ) (t : Bool) → nat_lt c 0x80 ≡ t → (s : Bool) → (nat_le 0xF780 c && nat_le c 0xF7FF) ≡ s → IsFew 1 (user_defined_bytes_of c)
    by_tests c true e s f = rw e (few_some 1 (c ∷ []) (omega arith) (omega arith))
    by_tests c false e true f = rw (e, f) (few_some 1 ((c - 0xF780 + 0x80) ∷ []) (omega arith) (omega arith))
    by_tests c false e false f = rw (e, f) (few_none 1)

pub euc_kr_encoder : (places : Places) → IsEncoder 2 (euc_kr_bytes_of places)
unfolding euc_kr_bytes_of
euc_kr_encoder places = record { four = omega arith; each = λ c. by_test c (nat_lt c 0x80) refl }
  where
    by_test : (c : ℕ) (t : Bool) → nat_lt c 0x80 ≡ t → IsFew 2 (euc_kr_bytes_of places c)
    by_test c true e = rw e (few_some 2 (c ∷ []) (omega arith) (omega arith))
    by_test c false e = rw e (few_map 2 1 euc_kr_bytes (λ place. refl) (omega arith) (least_place places c 23940))

pub euc_jp_encoder : (jis0208 : Places) → IsEncoder 2 (euc_jp_bytes_of jis0208)
unfolding euc_jp_bytes_of
euc_jp_encoder jis0208 = record {
  four = omega arith;
  each = λ c. by_tests c (nat_lt c 0x80) refl (c == 0xA5) refl (c == 0x203E) refl (nat_le 0xFF61 c && nat_le c 0xFF9F) refl;
}
  where
    by_tests : (c : ℕ) (t : Bool) → nat_lt c 0x80 ≡ t → (s : Bool) → (c == 0xA5) ≡ s → (r : Bool) → (c == 0x203E) ≡ r
        → (q : Bool) → (nat_le 0xFF61 c && nat_le c 0xFF9F) ≡ q → IsFew 2 (euc_jp_bytes_of jis0208 c)
    by_tests c true e s f r g q h = rw e (few_some 2 (c ∷ []) (omega arith) (omega arith))
    by_tests c false e true f r g q h = rw (e, f) (few_some 2 (0x5C ∷ []) (omega arith) (omega arith))
    by_tests c false e false f true g q h = rw (e, f, g) (few_some 2 (0x7E ∷ []) (omega arith) (omega arith))
    by_tests c false e false f false g true h = rw (e, f, g, h) (few_some 2 (0x8E ∷ (c - 0xFF61 + 0xA1) ∷ []) (omega arith) (omega arith))
    by_tests c false e false f false g false h =
        rw (e, f, g, h) (few_map 2 1 euc_jp_bytes (λ place. refl) (omega arith) (least_place jis0208 (minus_as_hyphen c) 8836))

place_few : (gbk : Bool) (ranges : Places) (c : ℕ) (o : Option ℕ) → IsFew 4 (gb18030_place_bytes gbk ranges c o)
place_few gbk ranges c (Some place) = few_some 4 (gb18030_bytes place) (omega arith) (omega arith)
place_few true ranges c None = few_none 4
place_few false ranges c None = few_map 4 3 ranges_bytes (λ place. refl) (omega arith) (least_place ranges c 1237576)

pub gb18030_encoder : (gbk : Bool) (index ranges : Places) → IsEncoder 4 (gb18030_bytes_of gbk index ranges)
unfolding gb18030_bytes_of
gb18030_encoder gbk index ranges = record {
  four = omega arith;
  each = λ c. by_tests c (nat_lt c 0x80) refl (c == 0xE5E5) refl (gbk && c == 0x20AC) refl;
}
  where
    by_tests : (c : ℕ) (t : Bool) → nat_lt c 0x80 ≡ t → (s : Bool) → (c == 0xE5E5) ≡ s → (r : Bool) → (gbk && c == 0x20AC) ≡ r
        → IsFew 4 (gb18030_bytes_of gbk index ranges c)
    by_tests c true e s f r g = rw e (few_some 4 (c ∷ []) (omega arith) (omega arith))
    by_tests c false e true f r g = rw (e, f) (few_none 4)
    by_tests c false e false f true g = rw (e, f, g) (few_some 4 (0x80 ∷ []) (omega arith) (omega arith))
    by_tests c false e false f false g = rw (e, f, g) (place_few gbk ranges c (least_place index c 23940))
