-- What the laws of the encodings of several bytes a scalar share.
use Rattle.std.proofs.Common.{◌≡◌, ℕ, ◌-◌, ◌<◌, ◌≤◌, Bool, true, false, cond, List, length, refl}
use Rattle.std.proofs.Common.{arith, ltb-true}
use Rattle.std.specs.Prelude.{nat_lt, Option, Some, None}
use Rattle.std.specs.Option.{ForSome}
use Rattle.std.specs.Char.{IsScalar}
use Rattle.enc_drivers.specs.declared.unit.Mode.{Mode}
use Rattle.enc_drivers.specs.Units.{scalar_at, malformed_at, IsUnitOf}
use Rattle.enc_drivers.specs.Codes.Sequence.{sequence_unit, whole_unit}
use Rattle.enc_drivers.specs.Lemmas.Scalars.{scalar_low, encode_three, encode_four}

pub malformed_is : (mode : Mode) (rest : List ℕ) (n : ℕ) → 1 ≤ n → n ≤ 4 → n ≤ length rest → IsUnitOf rest (malformed_at mode n)
malformed_is mode rest n some four within = record {
  some = some;
  four = four;
  within = within;
  scalars = tt;
  short_text = omega arith;
}

-- two bytes or more have at most four bytes of UTF-8
pub scalar_is : (mode : Mode) (rest : List ℕ) (c n : ℕ) → IsScalar c → 2 ≤ n → n ≤ 4 → n ≤ length rest → IsUnitOf rest (scalar_at mode c n)
scalar_is mode rest c n s some four within =
    let four_bytes = encode_four c in
    record {
      some = omega arith;
      four = four;
      within = within;
      scalars = s;
      short_text = omega (arith, four_bytes);
    }

-- one byte of a scalar that has at most three bytes of UTF-8
pub one_is : (mode : Mode) (rest : List ℕ) (c : ℕ) → IsScalar c → c < 0x10000 → 1 ≤ length rest → IsUnitOf rest (scalar_at mode c 1)
one_is mode rest c s h within = record {
  some = omega arith;
  four = omega arith;
  within = within;
  scalars = s;
  short_text = encode_three c h;
}

pub ascii_is : (mode : Mode) (rest : List ℕ) (c : ℕ) → nat_lt c 0x80 ≡ true → 1 ≤ length rest → IsUnitOf rest (scalar_at mode c 1)
ascii_is mode rest c e within =
    let low : c < 0x80 = ltb-true c 0x80 e in
    one_is mode rest c (scalar_low c (omega arith)) (omega arith) within

pub whole_is : (mode : Mode) (rest : List ℕ) (o : Option ℕ) (n : ℕ) → ForSome o (λ c. IsScalar c) → 2 ≤ n → n ≤ 4 → n ≤ length rest → IsUnitOf rest (whole_unit mode o n)
whole_is mode rest (Some c) n s two four within = scalar_is mode rest c n (s c refl) two four within
whole_is mode rest None n s two four within = malformed_is mode rest n (omega arith) four within

pub sequence_is : (mode : Mode) (rest : List ℕ) (o : Option ℕ) (n b : ℕ) → ForSome o (λ c. IsScalar c) → 2 ≤ n → n ≤ 4 → n ≤ length rest → IsUnitOf rest (sequence_unit mode o n b)
sequence_is mode rest (Some c) n b s two four within = scalar_is mode rest c n (s c refl) two four within
sequence_is mode rest None n b s two four within = by_test (nat_lt b 0x80) refl
  where
    by_test : (t : Bool) → nat_lt b 0x80 ≡ t → IsUnitOf rest (malformed_at mode (cond (nat_lt b 0x80) (n - 1) n))
    by_test true e = rw e (malformed_is mode rest (n - 1) (omega arith) (omega arith) (omega arith))
    by_test false e = rw e (malformed_is mode rest n (omega arith) four within)
