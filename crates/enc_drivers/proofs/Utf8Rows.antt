-- The rows of the table, from facts about bytes.
use Rattle.std.proofs.Common.{◌≡◌, ℕ, ◌<◌, ◌≤◌, Bool, true, false, ltb, List, length, get_or, refl, arith}
use Rattle.std.specs.Prelude.{◌&&◌}
use Rattle.std.proofs.lemmas.Bool.{and_parts, and_from, lt-ltb, le-leb}
use Rattle.enc_handles.specs.Utf8.{byte_in, is_tail_at, begins_two, begins_three, begins_four, sequence_len}
use Rattle.enc_drivers.specs.Lemmas.Utf8Law.{ByteAt, byte_at}

-- no row of the table begins the bytes
pub record NoRow (bytes : List ℕ) : Type 0 where
  pub not_one : (byte_in bytes 0 0x00 0x7F) ≡ false
  pub not_two : (begins_two bytes 0xC2 0xDF) ≡ false
  pub not_three_e0 : (begins_three bytes 0xE0 0xE0 0xA0 0xBF) ≡ false
  pub not_three_e1 : (begins_three bytes 0xE1 0xEC 0x80 0xBF) ≡ false
  pub not_three_ed : (begins_three bytes 0xED 0xED 0x80 0x9F) ≡ false
  pub not_three_ee : (begins_three bytes 0xEE 0xEF 0x80 0xBF) ≡ false
  pub not_four_f0 : (begins_four bytes 0xF0 0xF0 0x90 0xBF) ≡ false
  pub not_four_f1 : (begins_four bytes 0xF1 0xF3 0x80 0xBF) ≡ false
  pub not_four_f4 : (begins_four bytes 0xF4 0xF4 0x80 0x8F) ≡ false

-- the row of the table that the bytes begin with
pub data Row (bytes : List ℕ) : Type 0 where
  no_row : sequence_len bytes ≡ 0 → NoRow bytes → Row bytes
  one : sequence_len bytes ≡ 1 → (byte_in bytes 0 0x00 0x7F) ≡ true → Row bytes
  two : sequence_len bytes ≡ 2 → (begins_two bytes 0xC2 0xDF) ≡ true → Row bytes
  three_e0 : sequence_len bytes ≡ 3 → (begins_three bytes 0xE0 0xE0 0xA0 0xBF) ≡ true → Row bytes
  three_e1 : sequence_len bytes ≡ 3 → (begins_three bytes 0xE1 0xEC 0x80 0xBF) ≡ true → Row bytes
  three_ed : sequence_len bytes ≡ 3 → (begins_three bytes 0xED 0xED 0x80 0x9F) ≡ true → Row bytes
  three_ee : sequence_len bytes ≡ 3 → (begins_three bytes 0xEE 0xEF 0x80 0xBF) ≡ true → Row bytes
  four_f0 : sequence_len bytes ≡ 4 → (begins_four bytes 0xF0 0xF0 0x90 0xBF) ≡ true → Row bytes
  four_f1 : sequence_len bytes ≡ 4 → (begins_four bytes 0xF1 0xF3 0x80 0xBF) ≡ true → Row bytes
  four_f4 : sequence_len bytes ≡ 4 → (begins_four bytes 0xF4 0xF4 0x80 0x8F) ≡ true → Row bytes

module _ (bytes : List ℕ) where
  at_four_f4 : (byte_in bytes 0 0x00 0x7F) ≡ false → (begins_two bytes 0xC2 0xDF) ≡ false → (begins_three bytes 0xE0 0xE0 0xA0 0xBF) ≡ false → (begins_three bytes 0xE1 0xEC 0x80 0xBF) ≡ false → (begins_three bytes 0xED 0xED 0x80 0x9F) ≡ false → (begins_three bytes 0xEE 0xEF 0x80 0xBF) ≡ false → (begins_four bytes 0xF0 0xF0 0x90 0xBF) ≡ false → (begins_four bytes 0xF1 0xF3 0x80 0xBF) ≡ false → (b : Bool) → (begins_four bytes 0xF4 0xF4 0x80 0x8F) ≡ b → Row bytes
  unfolding sequence_len
  at_four_f4 e0 e1 e2 e3 e4 e5 e6 e7 true e = four_f4 (rw (e0, e1, e2, e3, e4, e5, e6, e7, e) refl) e
  at_four_f4 e0 e1 e2 e3 e4 e5 e6 e7 false e = no_row (rw (e0, e1, e2, e3, e4, e5, e6, e7, e) refl) (record { not_one = e0; not_two = e1; not_three_e0 = e2; not_three_e1 = e3; not_three_ed = e4; not_three_ee = e5; not_four_f0 = e6; not_four_f1 = e7; not_four_f4 = e })

  at_four_f1 : (byte_in bytes 0 0x00 0x7F) ≡ false → (begins_two bytes 0xC2 0xDF) ≡ false → (begins_three bytes 0xE0 0xE0 0xA0 0xBF) ≡ false → (begins_three bytes 0xE1 0xEC 0x80 0xBF) ≡ false → (begins_three bytes 0xED 0xED 0x80 0x9F) ≡ false → (begins_three bytes 0xEE 0xEF 0x80 0xBF) ≡ false → (begins_four bytes 0xF0 0xF0 0x90 0xBF) ≡ false → (b : Bool) → (begins_four bytes 0xF1 0xF3 0x80 0xBF) ≡ b → Row bytes
  unfolding sequence_len
  at_four_f1 e0 e1 e2 e3 e4 e5 e6 true e = four_f1 (rw (e0, e1, e2, e3, e4, e5, e6, e) refl) e
  at_four_f1 e0 e1 e2 e3 e4 e5 e6 false e = at_four_f4 e0 e1 e2 e3 e4 e5 e6 e (begins_four bytes 0xF4 0xF4 0x80 0x8F) refl

  at_four_f0 : (byte_in bytes 0 0x00 0x7F) ≡ false → (begins_two bytes 0xC2 0xDF) ≡ false → (begins_three bytes 0xE0 0xE0 0xA0 0xBF) ≡ false → (begins_three bytes 0xE1 0xEC 0x80 0xBF) ≡ false → (begins_three bytes 0xED 0xED 0x80 0x9F) ≡ false → (begins_three bytes 0xEE 0xEF 0x80 0xBF) ≡ false → (b : Bool) → (begins_four bytes 0xF0 0xF0 0x90 0xBF) ≡ b → Row bytes
  unfolding sequence_len
  at_four_f0 e0 e1 e2 e3 e4 e5 true e = four_f0 (rw (e0, e1, e2, e3, e4, e5, e) refl) e
  at_four_f0 e0 e1 e2 e3 e4 e5 false e = at_four_f1 e0 e1 e2 e3 e4 e5 e (begins_four bytes 0xF1 0xF3 0x80 0xBF) refl

  at_three_ee : (byte_in bytes 0 0x00 0x7F) ≡ false → (begins_two bytes 0xC2 0xDF) ≡ false → (begins_three bytes 0xE0 0xE0 0xA0 0xBF) ≡ false → (begins_three bytes 0xE1 0xEC 0x80 0xBF) ≡ false → (begins_three bytes 0xED 0xED 0x80 0x9F) ≡ false → (b : Bool) → (begins_three bytes 0xEE 0xEF 0x80 0xBF) ≡ b → Row bytes
  unfolding sequence_len
  at_three_ee e0 e1 e2 e3 e4 true e = three_ee (rw (e0, e1, e2, e3, e4, e) refl) e
  at_three_ee e0 e1 e2 e3 e4 false e = at_four_f0 e0 e1 e2 e3 e4 e (begins_four bytes 0xF0 0xF0 0x90 0xBF) refl

  at_three_ed : (byte_in bytes 0 0x00 0x7F) ≡ false → (begins_two bytes 0xC2 0xDF) ≡ false → (begins_three bytes 0xE0 0xE0 0xA0 0xBF) ≡ false → (begins_three bytes 0xE1 0xEC 0x80 0xBF) ≡ false → (b : Bool) → (begins_three bytes 0xED 0xED 0x80 0x9F) ≡ b → Row bytes
  unfolding sequence_len
  at_three_ed e0 e1 e2 e3 true e = three_ed (rw (e0, e1, e2, e3, e) refl) e
  at_three_ed e0 e1 e2 e3 false e = at_three_ee e0 e1 e2 e3 e (begins_three bytes 0xEE 0xEF 0x80 0xBF) refl

  at_three_e1 : (byte_in bytes 0 0x00 0x7F) ≡ false → (begins_two bytes 0xC2 0xDF) ≡ false → (begins_three bytes 0xE0 0xE0 0xA0 0xBF) ≡ false → (b : Bool) → (begins_three bytes 0xE1 0xEC 0x80 0xBF) ≡ b → Row bytes
  unfolding sequence_len
  at_three_e1 e0 e1 e2 true e = three_e1 (rw (e0, e1, e2, e) refl) e
  at_three_e1 e0 e1 e2 false e = at_three_ed e0 e1 e2 e (begins_three bytes 0xED 0xED 0x80 0x9F) refl

  at_three_e0 : (byte_in bytes 0 0x00 0x7F) ≡ false → (begins_two bytes 0xC2 0xDF) ≡ false → (b : Bool) → (begins_three bytes 0xE0 0xE0 0xA0 0xBF) ≡ b → Row bytes
  unfolding sequence_len
  at_three_e0 e0 e1 true e = three_e0 (rw (e0, e1, e) refl) e
  at_three_e0 e0 e1 false e = at_three_e1 e0 e1 e (begins_three bytes 0xE1 0xEC 0x80 0xBF) refl

  at_two : (byte_in bytes 0 0x00 0x7F) ≡ false → (b : Bool) → (begins_two bytes 0xC2 0xDF) ≡ b → Row bytes
  unfolding sequence_len
  at_two e0 true e = two (rw (e0, e) refl) e
  at_two e0 false e = at_three_e0 e0 e (begins_three bytes 0xE0 0xE0 0xA0 0xBF) refl

  at_one : (b : Bool) → (byte_in bytes 0 0x00 0x7F) ≡ b → Row bytes
  unfolding sequence_len
  at_one true e = one (rw e refl) e
  at_one false e = at_two e (begins_two bytes 0xC2 0xDF) refl

  pub row_of : Row bytes
  row_of = at_one (byte_in bytes 0 0x00 0x7F) refl

-- the bytes of the rows
pub record Three (bytes : List ℕ) (low high second_low second_high : ℕ) : Type 0 where
  pub first : ByteAt bytes 0 low high
  pub second : ByteAt bytes 1 second_low second_high
  pub third : ByteAt bytes 2 0x80 0xBF

pub three : (bytes : List ℕ) (low high second_low second_high : ℕ) → begins_three bytes low high second_low second_high ≡ true → Three bytes low high second_low second_high
three bytes low high second_low second_high e =
    let p = and_parts (byte_in bytes 0 low high) (byte_in bytes 1 second_low second_high && is_tail_at bytes 2) e in
    let q = and_parts (byte_in bytes 1 second_low second_high) (is_tail_at bytes 2) p.1 in
    record {
      first = byte_at bytes 0 low high p.0;
      second = byte_at bytes 1 second_low second_high q.0;
      third = byte_at bytes 2 0x80 0xBF q.1;
    }

pub record Four (bytes : List ℕ) (low high second_low second_high : ℕ) : Type 0 where
  pub three : Three bytes low high second_low second_high
  pub fourth : ByteAt bytes 3 0x80 0xBF

pub four : (bytes : List ℕ) (low high second_low second_high : ℕ) → begins_four bytes low high second_low second_high ≡ true → Four bytes low high second_low second_high
four bytes low high second_low second_high e =
    let p = and_parts (byte_in bytes 0 low high) (byte_in bytes 1 second_low second_high && (is_tail_at bytes 2 && is_tail_at bytes 3)) e in
    let q = and_parts (byte_in bytes 1 second_low second_high) (is_tail_at bytes 2 && is_tail_at bytes 3) p.1 in
    let r = and_parts (is_tail_at bytes 2) (is_tail_at bytes 3) q.1 in
    record {
      three = record {
        first = byte_at bytes 0 low high p.0;
        second = byte_at bytes 1 second_low second_high q.0;
        third = byte_at bytes 2 0x80 0xBF r.0;
      };
      fourth = byte_at bytes 3 0x80 0xBF r.1;
    }

-- tests from facts
pub byte_in_from : (bytes : List ℕ) (k low high : ℕ) → k < length bytes → low ≤ get_or bytes k 0 → get_or bytes k 0 ≤ high → byte_in bytes k low high ≡ true
byte_in_from bytes k low high within l h =
    and_from (ltb k (length bytes)) _ (lt-ltb k (length bytes) within) (and_from _ _ (le-leb low (get_or bytes k 0) l) (le-leb (get_or bytes k 0) high h))

pub two_from : (bytes : List ℕ) (low high : ℕ) → 1 < length bytes → low ≤ get_or bytes 0 0 → get_or bytes 0 0 ≤ high → 0x80 ≤ get_or bytes 1 0 → get_or bytes 1 0 ≤ 0xBF → begins_two bytes low high ≡ true
two_from bytes low high within a b c d =
    and_from (byte_in bytes 0 low high) (is_tail_at bytes 1) (byte_in_from bytes 0 low high (omega arith) a b) (byte_in_from bytes 1 0x80 0xBF within c d)

pub three_from : (bytes : List ℕ) (low high second_low second_high : ℕ) → 2 < length bytes → low ≤ get_or bytes 0 0 → get_or bytes 0 0 ≤ high → second_low ≤ get_or bytes 1 0 → get_or bytes 1 0 ≤ second_high
    → 0x80 ≤ get_or bytes 2 0 → get_or bytes 2 0 ≤ 0xBF → begins_three bytes low high second_low second_high ≡ true
three_from bytes low high second_low second_high within a b c d e f =
    and_from (byte_in bytes 0 low high) _ (byte_in_from bytes 0 low high (omega arith) a b)
    (and_from (byte_in bytes 1 second_low second_high) (is_tail_at bytes 2) (byte_in_from bytes 1 second_low second_high (omega arith) c d) (byte_in_from bytes 2 0x80 0xBF within e f))

pub four_from : (bytes : List ℕ) (low high second_low second_high : ℕ) → 3 < length bytes → low ≤ get_or bytes 0 0 → get_or bytes 0 0 ≤ high → second_low ≤ get_or bytes 1 0 → get_or bytes 1 0 ≤ second_high
    → 0x80 ≤ get_or bytes 2 0 → get_or bytes 2 0 ≤ 0xBF → 0x80 ≤ get_or bytes 3 0 → get_or bytes 3 0 ≤ 0xBF → begins_four bytes low high second_low second_high ≡ true
four_from bytes low high second_low second_high within a b c d e f g h =
    and_from (byte_in bytes 0 low high) _ (byte_in_from bytes 0 low high (omega arith) a b)
    (and_from (byte_in bytes 1 second_low second_high) _ (byte_in_from bytes 1 second_low second_high (omega arith) c d)
    (and_from (is_tail_at bytes 2) (is_tail_at bytes 3) (byte_in_from bytes 2 0x80 0xBF (omega arith) e f) (byte_in_from bytes 3 0x80 0xBF within g h)))

-- how long the sequence at the front is, and where its first byte lies
pub data Kind (bytes : List ℕ) : Type 0 where
  kind_none : sequence_len bytes ≡ 0 → NoRow bytes → Kind bytes
  kind_one : sequence_len bytes ≡ 1 → get_or bytes 0 0 ≤ 0x7F → Kind bytes
  kind_two : sequence_len bytes ≡ 2 → 0xC2 ≤ get_or bytes 0 0 → get_or bytes 0 0 ≤ 0xDF → Kind bytes
  kind_three : sequence_len bytes ≡ 3 → 0xE0 ≤ get_or bytes 0 0 → get_or bytes 0 0 ≤ 0xEF → Kind bytes
  kind_four : sequence_len bytes ≡ 4 → 0xF0 ≤ get_or bytes 0 0 → get_or bytes 0 0 ≤ 0xF4 → Kind bytes

pub kind_of : (bytes : List ℕ) → Row bytes → Kind bytes
kind_of bytes (no_row e none) = kind_none e none
kind_of bytes (one e t) = kind_one e (byte_at bytes 0 0x00 0x7F t).high_end
kind_of bytes (two e t) =
    let b = byte_at bytes 0 0xC2 0xDF (and_parts (byte_in bytes 0 0xC2 0xDF) (is_tail_at bytes 1) t).0 in
    kind_two e b.low_end b.high_end
kind_of bytes (three_e0 e t) = let f = (three bytes 0xE0 0xE0 0xA0 0xBF t).first in kind_three e (omega (arith, f.low_end)) (omega (arith, f.high_end))
kind_of bytes (three_e1 e t) = let f = (three bytes 0xE1 0xEC 0x80 0xBF t).first in kind_three e (omega (arith, f.low_end)) (omega (arith, f.high_end))
kind_of bytes (three_ed e t) = let f = (three bytes 0xED 0xED 0x80 0x9F t).first in kind_three e (omega (arith, f.low_end)) (omega (arith, f.high_end))
kind_of bytes (three_ee e t) = let f = (three bytes 0xEE 0xEF 0x80 0xBF t).first in kind_three e (omega (arith, f.low_end)) (omega (arith, f.high_end))
kind_of bytes (four_f0 e t) = let f = (four bytes 0xF0 0xF0 0x90 0xBF t).three.first in kind_four e (omega (arith, f.low_end)) (omega (arith, f.high_end))
kind_of bytes (four_f1 e t) = let f = (four bytes 0xF1 0xF3 0x80 0xBF t).three.first in kind_four e (omega (arith, f.low_end)) (omega (arith, f.high_end))
kind_of bytes (four_f4 e t) = let f = (four bytes 0xF4 0xF4 0x80 0x8F t).three.first in kind_four e (omega (arith, f.low_end)) (omega (arith, f.high_end))

-- the length, where one row holds and the first byte leaves no other length
pub len_three : (bytes : List ℕ) → Kind bytes → (NoRow bytes → ⊥) → 0xE0 ≤ get_or bytes 0 0 → get_or bytes 0 0 ≤ 0xEF → sequence_len bytes ≡ 3
len_three bytes (kind_none e none) some a b = absurd (some none)
len_three bytes (kind_one e h) some a b = absurd (omega arith)
len_three bytes (kind_two e l h) some a b = absurd (omega arith)
len_three bytes (kind_three e l h) some a b = e
len_three bytes (kind_four e l h) some a b = absurd (omega arith)

pub len_four : (bytes : List ℕ) → Kind bytes → (NoRow bytes → ⊥) → 0xF0 ≤ get_or bytes 0 0 → sequence_len bytes ≡ 4
len_four bytes (kind_none e none) some a = absurd (some none)
len_four bytes (kind_one e h) some a = absurd (omega arith)
len_four bytes (kind_two e l h) some a = absurd (omega arith)
len_four bytes (kind_three e l h) some a = absurd (omega arith)
len_four bytes (kind_four e l h) some a = e

-- where some row holds there is a sequence
pub some_row : (bytes : List ℕ) → Kind bytes → (NoRow bytes → ⊥) → 0 < sequence_len bytes
some_row bytes (kind_none e none) some = absurd (some none)
some_row bytes (kind_one e h) some = omega arith
some_row bytes (kind_two e l h) some = omega arith
some_row bytes (kind_three e l h) some = omega arith
some_row bytes (kind_four e l h) some = omega arith

-- the first byte of a sequence of two bytes or more
pub long_lead : (bytes : List ℕ) → Kind bytes → 2 ≤ sequence_len bytes → (0xC2 ≤ get_or bytes 0 0) × (get_or bytes 0 0 ≤ 0xF4)
long_lead bytes (kind_none e none) long = absurd (omega arith)
long_lead bytes (kind_one e h) long = absurd (omega arith)
long_lead bytes (kind_two e l h) long = (l, omega arith)
long_lead bytes (kind_three e l h) long = (omega arith, omega arith)
long_lead bytes (kind_four e l h) long = (omega arith, h)
