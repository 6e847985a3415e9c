-- The laws of UTF-8.
use Rattle.std.proofs.Common.{◌≡◌, ℕ, suc, ◌+◌, ◌<◌, ◌≤◌, Bool, true, false, leb-true, ltb-true}
use Rattle.std.proofs.Common.{eqb, List, [], ◌∷◌, length, get_or, take, drop, refl, ap, ◌∙◌, arith}
use Rattle.std.proofs.Common.{⊎_elim, length-append}
use Rattle.std.specs.Prelude.{nat_le, nat_lt, ◌&&◌, ◌||◌}
use Rattle.std.specs.Char.{encode_utf8}
use Rattle.std.proofs.lemmas.Bool.{and_parts, or_cases, eqb-false, lt-ltb}
use Rattle.enc_handles.specs.Utf8.{byte_in, is_tail_at, sequence_len, sequence_scalar}
use Rattle.enc_drivers.specs.declared.unit.Mode.{Mode}
use Rattle.enc_drivers.specs.Units.{scalar_at, malformed_at, IsCode, IsUnitOf, AreBytes}
use Rattle.enc_drivers.specs.Codes.Utf8.{begins_pair, two_of_three, two_of_four, malformed_len}
use Rattle.enc_drivers.specs.Codes.Utf8.{utf8_unit}
use Rattle.enc_handles.proofs.Sequences.{sequence-Decodes}
use Rattle.enc_drivers.specs.Lemmas.Scalars.{encode_four}

-- a byte from low to high stands at place k
pub record ByteAt (bytes : List ℕ) (k low high : ℕ) : Type 0 where
  pub within : k < length bytes
  pub low_end : low ≤ get_or bytes k 0
  pub high_end : get_or bytes k 0 ≤ high

pub byte_at : (bytes : List ℕ) (k low high : ℕ) → byte_in bytes k low high ≡ true → ByteAt bytes k low high
byte_at bytes k low high e =
    let p = and_parts (nat_lt k (length bytes)) (nat_le low (get_or bytes k 0) && nat_le (get_or bytes k 0) high) e in
    let q = and_parts (nat_le low (get_or bytes k 0)) (nat_le (get_or bytes k 0) high) p.1 in
    record {
      within = ltb-true k (length bytes) p.0;
      low_end = leb-true low (get_or bytes k 0) q.0;
      high_end = leb-true (get_or bytes k 0) high q.1;
    }

-- the first two bytes of a row
pub both : (bytes : List ℕ) (low high second_low second_high : ℕ) → begins_pair bytes low high second_low second_high ≡ true → ByteAt bytes 0 low high × ByteAt bytes 1 second_low second_high
both bytes low high second_low second_high e =
    let p = and_parts (byte_in bytes 0 low high) (byte_in bytes 1 second_low second_high) e in
    (byte_at bytes 0 low high p.0, byte_at bytes 1 second_low second_high p.1)

-- where a sequence is at the front
pub sequence_unit : (mode : Mode) (bytes : List ℕ) → 0 < sequence_len bytes → IsUnitOf bytes (scalar_at mode (sequence_scalar bytes) (sequence_len bytes))
sequence_unit mode bytes some =
    let d = sequence-Decodes bytes some in
    let few : length (encode_utf8 (sequence_scalar bytes)) ≤ 4 = encode_four (sequence_scalar bytes) in
    let len : length (encode_utf8 (sequence_scalar bytes)) ≡ sequence_len bytes = d.length_is in
    let whole : length bytes ≡ length (encode_utf8 (sequence_scalar bytes)) + length (drop (sequence_len bytes) bytes) =
    ap length d.front ∙ length-append (encode_utf8 (sequence_scalar bytes)) (drop (sequence_len bytes) bytes) in
    record {
      some = omega arith;
      four = omega arith;
      within = omega arith;
      scalars = d.scalar;
      short_text = omega arith;
    }

-- where none is
malformed_some : (mode : Mode) (bytes : List ℕ) (n : ℕ) → malformed_len bytes ≡ n → 1 ≤ n → n ≤ 3 → n ≤ length bytes → IsUnitOf bytes (malformed_at mode (malformed_len bytes))
malformed_some mode bytes n e some few within = record {
  some = omega arith;
  four = omega arith;
  within = omega arith;
  scalars = tt;
  short_text = omega arith;
}

pair_two : (bytes : List ℕ) (low high second_low second_high : ℕ) → begins_pair bytes low high second_low second_high ≡ true → 2 ≤ length bytes
pair_two bytes low high second_low second_high e = omega (arith, (both bytes low high second_low second_high e).1.within)

four_two : (bytes : List ℕ) → two_of_four bytes ≡ true → 2 ≤ length bytes
four_two bytes e =
    ⊎_elim
    (λ h. ⊎_elim (pair_two bytes 0xF0 0xF0 0x90 0xBF) (pair_two bytes 0xF1 0xF3 0x80 0xBF) (or_cases (begins_pair bytes 0xF0 0xF0 0x90 0xBF) (begins_pair bytes 0xF1 0xF3 0x80 0xBF) h))
    (pair_two bytes 0xF4 0xF4 0x80 0x8F)
    (or_cases (begins_pair bytes 0xF0 0xF0 0x90 0xBF || begins_pair bytes 0xF1 0xF3 0x80 0xBF) (begins_pair bytes 0xF4 0xF4 0x80 0x8F) e)

three_two : (bytes : List ℕ) → two_of_three bytes ≡ true → 2 ≤ length bytes
three_two bytes e =
    let a = begins_pair bytes 0xE0 0xE0 0xA0 0xBF in
    let b = begins_pair bytes 0xE1 0xEC 0x80 0xBF in
    let c = begins_pair bytes 0xED 0xED 0x80 0x9F in
    let d = begins_pair bytes 0xEE 0xEF 0x80 0xBF in
    ⊎_elim
    (λ h. ⊎_elim
    (λ k. ⊎_elim (pair_two bytes 0xE0 0xE0 0xA0 0xBF) (pair_two bytes 0xE1 0xEC 0x80 0xBF) (or_cases a b k))
    (pair_two bytes 0xED 0xED 0x80 0x9F) (or_cases (a || b) c h))
    (pair_two bytes 0xEE 0xEF 0x80 0xBF) (or_cases ((a || b) || c) d e)

malformed_unit : (mode : Mode) (bytes : List ℕ) → 0 < length bytes → IsUnitOf bytes (malformed_at mode (malformed_len bytes))
unfolding malformed_len
malformed_unit mode bytes some = by_tests (two_of_four bytes && is_tail_at bytes 2) refl (two_of_four bytes || two_of_three bytes) refl
  where
    by_tests : (s : Bool) → (two_of_four bytes && is_tail_at bytes 2) ≡ s → (t : Bool) → (two_of_four bytes || two_of_three bytes) ≡ t → IsUnitOf bytes (malformed_at mode (malformed_len bytes))
    by_tests true e t f =
        malformed_some mode bytes 3 (rw e refl) (omega arith) (omega arith)
        (omega (arith, (byte_at bytes 2 0x80 0xBF (and_parts (two_of_four bytes) (is_tail_at bytes 2) e).1).within))
    by_tests false e true f =
        malformed_some mode bytes 2 (rw (e, f) refl) (omega arith) (omega arith)
        (⊎_elim (four_two bytes) (three_two bytes) (or_cases (two_of_four bytes) (two_of_three bytes) f))
    by_tests false e false f = malformed_some mode bytes 1 (rw (e, f) refl) (omega arith) (omega arith) (omega arith)

-- the unit at the front
each_unit : (mode : Mode) (bytes : List ℕ) → AreBytes bytes → 0 < length bytes → IsUnitOf bytes (utf8_unit mode bytes)
unfolding utf8_unit
each_unit mode bytes are some = by_test (eqb (sequence_len bytes) 0) refl
  where
    by_test : (t : Bool) → eqb (sequence_len bytes) 0 ≡ t → IsUnitOf bytes (utf8_unit mode bytes)
    by_test true e = rw e (malformed_unit mode bytes some)
    by_test false e =
        let ne = eqb-false (sequence_len bytes) 0 e in
        rw e (sequence_unit mode bytes (omega arith))

-- the places of a list of four elements or more
some_of_four : (n : ℕ) → (nat_lt 0 (suc (suc (suc (suc n)))) ≡ true) × (nat_lt 1 (suc (suc (suc (suc n)))) ≡ true) × (nat_lt 2 (suc (suc (suc (suc n)))) ≡ true) × (nat_lt 3 (suc (suc (suc (suc n)))) ≡ true)
some_of_four n = (lt-ltb 0 (suc (suc (suc (suc n)))) (omega arith), lt-ltb 1 (suc (suc (suc (suc n)))) (omega arith), lt-ltb 2 (suc (suc (suc (suc n)))) (omega arith), lt-ltb 3 (suc (suc (suc (suc n)))) (omega arith))

-- the first four bytes decide
same_four : (mode : Mode) (x y : List ℕ) → 4 ≤ length x → 4 ≤ length y → take 4 x ≡ take 4 y → utf8_unit mode x ≡ utf8_unit mode y
unfolding utf8_unit malformed_len sequence_len sequence_scalar
same_four mode (a ∷ b ∷ c ∷ d ∷ xs) (s ∷ t ∷ u ∷ v ∷ ys) h k e =
    let ea : a ≡ s = ap (λ l. get_or l 0 0) e in
    let eb : b ≡ t = ap (λ l. get_or l 1 0) e in
    let ec : c ≡ u = ap (λ l. get_or l 2 0) e in
    let ed : d ≡ v = ap (λ l. get_or l 3 0) e in
    let x_has = some_of_four (length xs) in
    let y_has = some_of_four (length ys) in
    rw (ea, eb, ec, ed, x_has.0, x_has.1, x_has.2, x_has.3, y_has.0, y_has.1, y_has.2, y_has.3) refl
same_four mode (a ∷ b ∷ c ∷ []) y h k e = absurd (omega arith)
same_four mode (a ∷ b ∷ []) y h k e = absurd (omega arith)
same_four mode (a ∷ []) y h k e = absurd (omega arith)
same_four mode [] y h k e = absurd (omega arith)
same_four mode (a ∷ b ∷ c ∷ d ∷ xs) (s ∷ t ∷ u ∷ []) h k e = absurd (omega arith)
same_four mode (a ∷ b ∷ c ∷ d ∷ xs) (s ∷ t ∷ []) h k e = absurd (omega arith)
same_four mode (a ∷ b ∷ c ∷ d ∷ xs) (s ∷ []) h k e = absurd (omega arith)
same_four mode (a ∷ b ∷ c ∷ d ∷ xs) [] h k e = absurd (omega arith)

pub utf8_law : IsCode utf8_unit
utf8_law = record {
  each = each_unit;
  first_four = λ mode a b are bre h k e. same_four mode a b h k e;
}
