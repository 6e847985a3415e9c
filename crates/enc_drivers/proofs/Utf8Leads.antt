-- First bytes that begin no sequence of UTF-8.
use Rattle.std.proofs.Common.{◌≡◌, ℕ, ◌≤◌, Bool, true, false, List, refl, sym, ap, arith}
use Rattle.std.specs.Prelude.{◌&&◌, not}
use Rattle.std.proofs.lemmas.Bool.{and_parts, both_ways}
use Rattle.enc_handles.specs.Utf8.{byte_in, is_tail_at, begins_two, begins_three, begins_four, sequence_len}
use Rattle.enc_drivers.specs.Codes.Utf8.{begins_pair, malformed_len}
use Rattle.enc_drivers.specs.Lemmas.Utf8Law.{byte_at}
use Rattle.enc_drivers.proofs.Utf8Rows.{byte_in_from}

not_false : (t : Bool) → not t ≡ true → t ≡ false
not_false true e = sym e
not_false false e = refl

-- from the test of the first byte
pub no_lead : (front : List ℕ) → (not (byte_in front 0 0x00 0x7F) && not (byte_in front 0 0xC2 0xF4)) ≡ true
    → (byte_in front 0 0x00 0x7F ≡ false) × (byte_in front 0 0xC2 0xF4 ≡ false)
no_lead front e =
    let parts = and_parts (not (byte_in front 0 0x00 0x7F)) (not (byte_in front 0 0xC2 0xF4)) e in
    (not_false (byte_in front 0 0x00 0x7F) parts.0, not_false (byte_in front 0 0xC2 0xF4) parts.1)

module _ (front : List ℕ) (none : byte_in front 0 0xC2 0xF4 ≡ false) where
  within : (low high : ℕ) → 0xC2 ≤ low → high ≤ 0xF4 → (t : Bool) → byte_in front 0 low high ≡ t → t ≡ false
  within low high l h true e =
      let at = byte_at front 0 low high e in
      absurd (both_ways (byte_in front 0 0xC2 0xF4) none (byte_in_from front 0 0xC2 0xF4 at.within (omega (arith, at.low_end)) (omega (arith, at.high_end))))
  within low high l h false e = refl

  -- it isn't in a row of the table that begins with other bytes
  outside : (low high : ℕ) → 0xC2 ≤ low → high ≤ 0xF4 → byte_in front 0 low high ≡ false
  outside low high l h = within low high l h (byte_in front 0 low high) refl

  pair : (low high second_low second_high : ℕ) → 0xC2 ≤ low → high ≤ 0xF4 → begins_pair front low high second_low second_high ≡ false
  pair low high second_low second_high l h = ap (λ t. t && byte_in front 1 second_low second_high) (outside low high l h)

  two : begins_two front 0xC2 0xDF ≡ false
  two = ap (λ t. t && is_tail_at front 1) (outside 0xC2 0xDF (omega arith) (omega arith))

  three : (low high second_low second_high : ℕ) → 0xC2 ≤ low → high ≤ 0xF4 → begins_three front low high second_low second_high ≡ false
  three low high second_low second_high l h = ap (λ t. t && (byte_in front 1 second_low second_high && is_tail_at front 2)) (outside low high l h)

  four : (low high second_low second_high : ℕ) → 0xC2 ≤ low → high ≤ 0xF4 → begins_four front low high second_low second_high ≡ false
  four low high second_low second_high l h =
      ap (λ t. t && (byte_in front 1 second_low second_high && (is_tail_at front 2 && is_tail_at front 3))) (outside low high l h)

  pub none_alone : byte_in front 0 0x00 0x7F ≡ false → sequence_len front ≡ 0
  unfolding sequence_len
  none_alone one =
      let e0 = three 0xE0 0xE0 0xA0 0xBF (omega arith) (omega arith) in
      let e1 = three 0xE1 0xEC 0x80 0xBF (omega arith) (omega arith) in
      let ed = three 0xED 0xED 0x80 0x9F (omega arith) (omega arith) in
      let ee = three 0xEE 0xEF 0x80 0xBF (omega arith) (omega arith) in
      let f0 = four 0xF0 0xF0 0x90 0xBF (omega arith) (omega arith) in
      let f1 = four 0xF1 0xF3 0x80 0xBF (omega arith) (omega arith) in
      let f4 = four 0xF4 0xF4 0x80 0x8F (omega arith) (omega arith) in
      rw (one, two, e0, e1, ed, ee, f0, f1, f4) refl

  pub one_alone : malformed_len front ≡ 1
  unfolding malformed_len
  one_alone =
      let e0 = pair 0xE0 0xE0 0xA0 0xBF (omega arith) (omega arith) in
      let e1 = pair 0xE1 0xEC 0x80 0xBF (omega arith) (omega arith) in
      let ed = pair 0xED 0xED 0x80 0x9F (omega arith) (omega arith) in
      let ee = pair 0xEE 0xEF 0x80 0xBF (omega arith) (omega arith) in
      let f0 = pair 0xF0 0xF0 0x90 0xBF (omega arith) (omega arith) in
      let f1 = pair 0xF1 0xF3 0x80 0xBF (omega arith) (omega arith) in
      let f4 = pair 0xF4 0xF4 0x80 0x8F (omega arith) (omega arith) in
      rw (e0, e1, ed, ee, f0, f1, f4) refl
