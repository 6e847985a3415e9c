-- Scalars and the length of their UTF-8.
use Rattle.std.proofs.Common.{ℕ, ◌<◌, ◌≤◌, length, arith}
use Rattle.std.specs.Prelude.{encode_utf8}
use Rattle.std.specs.Char.{IsScalar}
use Rattle.std.proofs.lemmas.Bool.Decides.{nat_tests}
use Rattle.std.proofs.lemmas.Str.{length-encode}

pub scalar_low : (c : ℕ) → c < 0xD800 → IsScalar c
scalar_low c h = grind (arith, nat_tests)

pub scalar_high : (c : ℕ) → 0xE000 ≤ c → c < 0x110000 → IsScalar c
scalar_high c h k = grind (arith, nat_tests)

pub encode_four : (c : ℕ) → length (encode_utf8 c) ≤ 4
encode_four c = rw (length-encode c) (grind (arith, nat_tests))

pub encode_three : (c : ℕ) → c < 0x10000 → length (encode_utf8 c) ≤ 3
encode_three c h = rw (length-encode c) (grind (arith, nat_tests))
