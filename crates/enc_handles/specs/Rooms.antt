-- How many elements a scalar has at most in each form.
use Rattle.std.specs.Prelude.{◌≡◌, ℕ, ◌+◌, ◌<◌, ◌≤◌, [], ◌∷◌, min, length, refl}
use Rattle.std.specs.Char.{IsScalar, len_utf8}
use Rattle.std.specs.Char.Escape.{encode_utf16}
use Rattle.std.proofs.Common.{arith, inl, inr}
use Rattle.enc_handles.specs.Utf16.{TakesWhatFits}
use Rattle.std.proofs.lemmas.Bool.Decides.{nat_tests}
use Rattle.std.proofs.lemmas.Str.{length-encode, encode_ascii}
use lib.Utf8.{encode}

pub len_bmp : (c : ℕ) → c < 0x1_0000 → len_utf8 c ≤ 3
len_bmp c below = grind (arith, nat_tests)

pub len_any : (c : ℕ) → len_utf8 c ≤ 4
len_any c = grind (arith, nat_tests)

pub len_low : (c : ℕ) → c < 0x800 → len_utf8 c ≤ 2
len_low c below = grind (arith, nat_tests)

pub bmp_fits_utf8 : (c : ℕ) → IsScalar c → c < 0x1_0000 → length (encode c) ≤ 3
bmp_fits_utf8 c scalar below = omega (arith, length-encode c, len_bmp c below)

pub astral_fits_utf8 : (c : ℕ) → IsScalar c → length (encode c) ≤ 4
astral_fits_utf8 c scalar = omega (arith, length-encode c, len_any c)

pub two_fit_utf8 : (c d : ℕ) → c < 0x800 → d < 0x800 → length (encode c) + length (encode d) ≤ 4
two_fit_utf8 c d below below' =
    omega (arith, length-encode c, length-encode d, len_low c below, len_low d below')

pub bmp_fits_utf16 : (c : ℕ) → IsScalar c → c < 0x1_0000 → length (encode_utf16 c) ≤ 1
bmp_fits_utf16 c scalar below = grind (arith, nat_tests)

pub astral_fits_utf16 : (c : ℕ) → IsScalar c → length (encode_utf16 c) ≤ 2
astral_fits_utf16 c scalar = grind (arith, nat_tests)

pub two_fit_utf16 : (c d : ℕ) → c < 0x800 → d < 0x800
    → length (encode_utf16 c) + length (encode_utf16 d) ≤ 2
two_fit_utf16 c d below below' = grind (arith, nat_tests)

pub ascii_text_utf8 : (c : ℕ) → c < 0x80 → encode c ≡ c ∷ []
ascii_text_utf8 c below = encode_ascii c below

pub ascii_text_utf16 : (c : ℕ) → c < 0x80 → encode_utf16 c ≡ c ∷ []
ascii_text_utf16 c below = grind (arith, nat_tests)

pub takes_what_fits_utf8 : TakesWhatFits encode 4 (λ room count. count)
takes_what_fits_utf8 = inl astral_fits_utf8

pub takes_what_fits_utf16 : TakesWhatFits encode_utf16 0 (λ room count. min count room)
takes_what_fits_utf16 = inr (λ c. refl, λ room count. omega arith)
