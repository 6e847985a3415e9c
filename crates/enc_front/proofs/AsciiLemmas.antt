-- ASCII, byte by byte, and U+FFFD for every other byte.
use Rattle.std.proofs.Common.{◌≡◌, ℕ, zero, suc, ◌<◌, Bool, true, false, cond, List, [], ◌∷◌, ◌+◌, length, get_or, refl, ap, sym, ◌∙◌, arith, append_assoc}
use Rattle.std.specs.Prelude.{◌++◌, take, nat_lt}
use Rattle.std.specs.List.{flat_map}
use Rattle.std.specs.Char.{encode_utf8}
use Rattle.std.specs.Str.{IsUtf8}
use Rattle.std.proofs.lemmas.Bool.{ltb-true}
use Rattle.std.proofs.lemmas.Str.{IsUtf8-nil, IsUtf8-encode, IsUtf8-append, IsUtf8-from_ascii}
use Rattle.std.proofs.lemmas.List.{append-nil, take_more}
use Rattle.std.proofs.lemmas.List.Concat.{flat_map-append}
use Rattle.std.proofs.lemmas.List.Elements.{All-from_get_or}
use Rattle.enc_drivers.specs.Lemmas.Scalars.{scalar_high}
use Rattle.enc_drivers.specs.Units.{AreBytes, replacement}
use Rattle.enc_front.specs.Charset.{ascii_text}

pub are_bytes : (bytes : List ℕ) → ((i : ℕ) → get_or bytes i 0 < 256) → AreBytes bytes
are_bytes bytes h = All-from_get_or (λ b. b < 256) bytes 0 (λ i k. h i)

-- U+FFFD in UTF-8
pub replacement_is : encode_utf8 0xFFFD ≡ replacement
unfolding encode_utf8
replacement_is = refl

-- ASCII, a byte at a time
pub ascii_text_more : (bytes : List ℕ) (i : ℕ) → i < length bytes
    → ascii_text (take (i + 1) bytes) ≡ ascii_text (take i bytes)
    ++ cond (nat_lt (get_or bytes i 0) 0x80) (get_or bytes i 0 ∷ []) replacement
unfolding ascii_text
ascii_text_more bytes i h =
    let one = λ (b : ℕ). cond (nat_lt b 0x80) (b ∷ []) replacement in
    ap (flat_map one) (take_more bytes i 0 h)
    ∙ flat_map-append one (take i bytes) (get_or bytes i 0 ∷ [])
    ∙ ap (λ t. flat_map one (take i bytes) ++ t) (append-nil (one (get_or bytes i 0)))

pub ascii_text_none : (bytes : List ℕ) → ascii_text (take 0 bytes) ≡ []
unfolding ascii_text
ascii_text_none bytes = refl

-- a byte more, behind what stood before
pub ascii_turn : (bytes start before after : List ℕ) (i : ℕ) → i < length bytes → before ≡ start ++ ascii_text (take i bytes)
    → after ≡ before ++ cond (nat_lt (get_or bytes i 0) 0x80) (get_or bytes i 0 ∷ []) replacement → after ≡ start ++ ascii_text (take (i + 1) bytes)
ascii_turn bytes start before after i h so_far pushed =
    let more = cond (nat_lt (get_or bytes i 0) 0x80) (get_or bytes i 0 ∷ []) replacement in
    pushed ∙ ap (λ t. t ++ more) so_far ∙ append_assoc start (ascii_text (take i bytes)) more ∙ ap (λ t. start ++ t) (sym (ascii_text_more bytes i h))

one_ascii : (b : ℕ) → b < 0x80 → (i : ℕ) → get_or (b ∷ []) i 0 < 128
one_ascii b h zero = h
one_ascii b h (suc i) = omega arith

-- ASCII with U+FFFD for every other byte is UTF-8
pub ascii_text_utf_8 : (bytes : List ℕ) → IsUtf8 (ascii_text bytes)
unfolding ascii_text
ascii_text_utf_8 [] = IsUtf8-nil
ascii_text_utf_8 (b ∷ bytes) = IsUtf8-append _ _ (one_utf_8 b (nat_lt b 0x80) refl) (ascii_text_utf_8 bytes)
  where
    one_utf_8 : (b : ℕ) (t : Bool) → nat_lt b 0x80 ≡ t → IsUtf8 (cond t (b ∷ []) replacement)
    one_utf_8 b true e = IsUtf8-from_ascii (b ∷ []) (one_ascii b (ltb-true b 0x80 e))
    one_utf_8 b false e = rw (← replacement_is) (IsUtf8-encode 0xFFFD (scalar_high 0xFFFD (omega arith) (omega arith)))
