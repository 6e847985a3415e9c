-- A malformed unit covers the longest front that begins some well-formed sequence.
use Rattle.std.proofs.Common.{◌≡◌, ℕ, ◌+◌, ◌<◌, ◌≤◌, Bool, true, false, List, [], ◌∷◌, ◌++◌, length, get_or, take, refl, sym, ◌∙◌, arith, inl, inr, ⊎_elim, subst, length-append}
use Rattle.std.specs.Prelude.{◌⊎◌, ◌&&◌, ◌||◌}
use Rattle.std.proofs.lemmas.Bool.{cases_lt, and_parts, and_from, or_cases, both_ways}
use Rattle.std.proofs.lemmas.List.Elements.{All-nil, All-cons}
use Rattle.enc_drivers.specs.Units.{AreBytes}
use Rattle.enc_drivers.proofs.Utf8Rows.{Three, Four, Row, NoRow, no_row, one, two, three_e0, three_e1, three_ed, three_ee, four_f0, four_f1, four_f4, row_of, three, four, byte_in_from, two_from, three_from, four_from, kind_of, len_three, len_four}
use Rattle.std.proofs.lemmas.List.{get_or_append_left, get_or-append-add, get_or-take, length-take-le}
use Rattle.enc_handles.specs.Utf8.{byte_in, is_tail_at, begins_two, begins_three, begins_four, sequence_len}
use Rattle.enc_drivers.specs.Codes.Utf8.{begins_pair, two_of_three, two_of_four, malformed_len, BeginsSequence, IsLongestBegun}
use Rattle.enc_drivers.specs.Lemmas.Utf8Law.{ByteAt, byte_at, both}

-- the front of k bytes and what is put behind it agree with the bytes below k
same_byte : (bytes more : List ℕ) (k i : ℕ) → i < k → k ≤ length bytes → get_or (take k bytes ++ more) i 0 ≡ get_or bytes i 0
same_byte bytes more k i h w =
    get_or_append_left (take k bytes) more 0 i (omega (arith, length-take-le k bytes w)) ∙ get_or-take k bytes i 0 h

back : (bytes more : List ℕ) (k i low high : ℕ) → i < k → k ≤ length bytes → ByteAt (take k bytes ++ more) i low high → ByteAt bytes i low high
back bytes more k i low high h w b =
    let e = same_byte bytes more k i h w in
    record { within = omega arith; low_end = rw e at b.low_end; high_end = rw e at b.high_end }

test_from : (bytes : List ℕ) (k low high : ℕ) → ByteAt bytes k low high → byte_in bytes k low high ≡ true
test_from bytes k low high b = byte_in_from bytes k low high b.within b.low_end b.high_end

pair_from : (bytes : List ℕ) (low high second_low second_high : ℕ) → ByteAt bytes 0 low high → ByteAt bytes 1 second_low second_high → begins_pair bytes low high second_low second_high ≡ true
pair_from bytes low high second_low second_high a b =
    and_from (byte_in bytes 0 low high) (byte_in bytes 1 second_low second_high) (test_from bytes 0 low high a) (test_from bytes 1 second_low second_high b)

-- no row begins bytes without a sequence
pub none_of : (bytes : List ℕ) → Row bytes → sequence_len bytes ≡ 0 → NoRow bytes
none_of bytes (no_row e none) z = none
none_of bytes (one e t) z = absurd (omega arith)
none_of bytes (two e t) z = absurd (omega arith)
none_of bytes (three_e0 e t) z = absurd (omega arith)
none_of bytes (three_e1 e t) z = absurd (omega arith)
none_of bytes (three_ed e t) z = absurd (omega arith)
none_of bytes (three_ee e t) z = absurd (omega arith)
none_of bytes (four_f0 e t) z = absurd (omega arith)
none_of bytes (four_f1 e t) z = absurd (omega arith)
none_of bytes (four_f4 e t) z = absurd (omega arith)

or_left : (x y : Bool) → x ≡ true → (x || y) ≡ true
or_left true y h = refl
or_left false y h = cc

or_right : (x y : Bool) → y ≡ true → (x || y) ≡ true
or_right true y h = refl
or_right false y h = h

-- each pair of the tables is in its table
in_three_e0 : (bytes : List ℕ) → begins_pair bytes 0xE0 0xE0 0xA0 0xBF ≡ true → two_of_three bytes ≡ true
in_three_e0 bytes h = (or_left (((begins_pair bytes 0xE0 0xE0 0xA0 0xBF) || (begins_pair bytes 0xE1 0xEC 0x80 0xBF)) || (begins_pair bytes 0xED 0xED 0x80 0x9F)) (begins_pair bytes 0xEE 0xEF 0x80 0xBF) (or_left ((begins_pair bytes 0xE0 0xE0 0xA0 0xBF) || (begins_pair bytes 0xE1 0xEC 0x80 0xBF)) (begins_pair bytes 0xED 0xED 0x80 0x9F) (or_left (begins_pair bytes 0xE0 0xE0 0xA0 0xBF) (begins_pair bytes 0xE1 0xEC 0x80 0xBF) h)))

in_three_e1 : (bytes : List ℕ) → begins_pair bytes 0xE1 0xEC 0x80 0xBF ≡ true → two_of_three bytes ≡ true
in_three_e1 bytes h = (or_left (((begins_pair bytes 0xE0 0xE0 0xA0 0xBF) || (begins_pair bytes 0xE1 0xEC 0x80 0xBF)) || (begins_pair bytes 0xED 0xED 0x80 0x9F)) (begins_pair bytes 0xEE 0xEF 0x80 0xBF) (or_left ((begins_pair bytes 0xE0 0xE0 0xA0 0xBF) || (begins_pair bytes 0xE1 0xEC 0x80 0xBF)) (begins_pair bytes 0xED 0xED 0x80 0x9F) (or_right (begins_pair bytes 0xE0 0xE0 0xA0 0xBF) (begins_pair bytes 0xE1 0xEC 0x80 0xBF) h)))

in_three_ed : (bytes : List ℕ) → begins_pair bytes 0xED 0xED 0x80 0x9F ≡ true → two_of_three bytes ≡ true
in_three_ed bytes h = (or_left (((begins_pair bytes 0xE0 0xE0 0xA0 0xBF) || (begins_pair bytes 0xE1 0xEC 0x80 0xBF)) || (begins_pair bytes 0xED 0xED 0x80 0x9F)) (begins_pair bytes 0xEE 0xEF 0x80 0xBF) (or_right ((begins_pair bytes 0xE0 0xE0 0xA0 0xBF) || (begins_pair bytes 0xE1 0xEC 0x80 0xBF)) (begins_pair bytes 0xED 0xED 0x80 0x9F) h))

in_three_ee : (bytes : List ℕ) → begins_pair bytes 0xEE 0xEF 0x80 0xBF ≡ true → two_of_three bytes ≡ true
in_three_ee bytes h = (or_right (((begins_pair bytes 0xE0 0xE0 0xA0 0xBF) || (begins_pair bytes 0xE1 0xEC 0x80 0xBF)) || (begins_pair bytes 0xED 0xED 0x80 0x9F)) (begins_pair bytes 0xEE 0xEF 0x80 0xBF) h)

in_four_f0 : (bytes : List ℕ) → begins_pair bytes 0xF0 0xF0 0x90 0xBF ≡ true → two_of_four bytes ≡ true
in_four_f0 bytes h = (or_left ((begins_pair bytes 0xF0 0xF0 0x90 0xBF) || (begins_pair bytes 0xF1 0xF3 0x80 0xBF)) (begins_pair bytes 0xF4 0xF4 0x80 0x8F) (or_left (begins_pair bytes 0xF0 0xF0 0x90 0xBF) (begins_pair bytes 0xF1 0xF3 0x80 0xBF) h))

in_four_f1 : (bytes : List ℕ) → begins_pair bytes 0xF1 0xF3 0x80 0xBF ≡ true → two_of_four bytes ≡ true
in_four_f1 bytes h = (or_left ((begins_pair bytes 0xF0 0xF0 0x90 0xBF) || (begins_pair bytes 0xF1 0xF3 0x80 0xBF)) (begins_pair bytes 0xF4 0xF4 0x80 0x8F) (or_right (begins_pair bytes 0xF0 0xF0 0x90 0xBF) (begins_pair bytes 0xF1 0xF3 0x80 0xBF) h))

in_four_f4 : (bytes : List ℕ) → begins_pair bytes 0xF4 0xF4 0x80 0x8F ≡ true → two_of_four bytes ≡ true
in_four_f4 bytes h = (or_right ((begins_pair bytes 0xF0 0xF0 0x90 0xBF) || (begins_pair bytes 0xF1 0xF3 0x80 0xBF)) (begins_pair bytes 0xF4 0xF4 0x80 0x8F) h)

-- what the number of malformed bytes says of the tables
of_three : (bytes : List ℕ) → (two_of_four bytes && is_tail_at bytes 2) ≡ true → malformed_len bytes ≡ 3
unfolding malformed_len
of_three bytes h = rw h refl

at_least_two : (bytes : List ℕ) → (two_of_four bytes || two_of_three bytes) ≡ true → 2 ≤ malformed_len bytes
unfolding malformed_len
at_least_two bytes h = by_test (two_of_four bytes && is_tail_at bytes 2) refl
  where
    by_test : (t : Bool) → (two_of_four bytes && is_tail_at bytes 2) ≡ t → 2 ≤ malformed_len bytes
    by_test true e = rw e (omega arith)
    by_test false e = rw (e, h) (omega arith)

-- no longer front begins a sequence
module _ (bytes : List ℕ) (z : sequence_len bytes ≡ 0) (k : ℕ) (longer : malformed_len bytes < k) (some : 1 ≤ malformed_len bytes) (w : k ≤ length bytes) (more : List ℕ) where
  longer_three : (low high second_low second_high : ℕ) → 3 ≡ sequence_len (take k bytes ++ more) → k ≤ sequence_len (take k bytes ++ more) → Three (take k bytes ++ more) low high second_low second_high
      → (begins_pair bytes low high second_low second_high ≡ true → two_of_three bytes ≡ true) → begins_three bytes low high second_low second_high ≡ false → ⊥
  longer_three low high second_low second_high l b t into not = by_cases (cases_lt k 3)
    where
      by_cases : (k < 3) ⊎ (3 ≤ k) → ⊥
      by_cases (inl h) =
          let pair = pair_from bytes low high second_low second_high (back bytes more k 0 low high (omega arith) w t.first) (back bytes more k 1 second_low second_high (omega arith) w t.second) in
          let two = at_least_two bytes (or_right (two_of_four bytes) (two_of_three bytes) (into pair)) in
          omega arith
      by_cases (inr h) =
          let a = back bytes more k 0 low high (omega arith) w t.first in
          let c = back bytes more k 1 second_low second_high (omega arith) w t.second in
          let d = back bytes more k 2 0x80 0xBF (omega arith) w t.third in
          both_ways _ not (three_from bytes low high second_low second_high d.within a.low_end a.high_end c.low_end c.high_end d.low_end d.high_end)

  longer_four : (low high second_low second_high : ℕ) → 4 ≡ sequence_len (take k bytes ++ more) → k ≤ sequence_len (take k bytes ++ more) → Four (take k bytes ++ more) low high second_low second_high
      → (begins_pair bytes low high second_low second_high ≡ true → two_of_four bytes ≡ true) → begins_four bytes low high second_low second_high ≡ false → ⊥
  longer_four low high second_low second_high l b t into not = by_cases (cases_lt k 3) (cases_lt k 4)
    where
      by_cases : (k < 3) ⊎ (3 ≤ k) → (k < 4) ⊎ (4 ≤ k) → ⊥
      by_cases (inl h) g =
          let pair = pair_from bytes low high second_low second_high (back bytes more k 0 low high (omega arith) w t.three.first) (back bytes more k 1 second_low second_high (omega arith) w t.three.second) in
          let two = at_least_two bytes (or_left (two_of_four bytes) (two_of_three bytes) (into pair)) in
          omega arith
      by_cases (inr h) (inl g) =
          let pair = pair_from bytes low high second_low second_high (back bytes more k 0 low high (omega arith) w t.three.first) (back bytes more k 1 second_low second_high (omega arith) w t.three.second) in
          let tail = test_from bytes 2 0x80 0xBF (back bytes more k 2 0x80 0xBF (omega arith) w t.three.third) in
          let three = of_three bytes (and_from (two_of_four bytes) (is_tail_at bytes 2) (into pair) tail) in
          omega arith
      by_cases (inr h) (inr g) =
          let a = back bytes more k 0 low high (omega arith) w t.three.first in
          let c = back bytes more k 1 second_low second_high (omega arith) w t.three.second in
          let d = back bytes more k 2 0x80 0xBF (omega arith) w t.three.third in
          let f = back bytes more k 3 0x80 0xBF (omega arith) w t.fourth in
          both_ways _ not (four_from bytes low high second_low second_high f.within a.low_end a.high_end c.low_end c.high_end d.low_end d.high_end f.low_end f.high_end)

  longer_two : 2 ≡ sequence_len (take k bytes ++ more) → k ≤ sequence_len (take k bytes ++ more) → begins_two (take k bytes ++ more) 0xC2 0xDF ≡ true → begins_two bytes 0xC2 0xDF ≡ false → ⊥
  longer_two l b t not =
      let p = and_parts (byte_in (take k bytes ++ more) 0 0xC2 0xDF) (is_tail_at (take k bytes ++ more) 1) t in
      let a = back bytes more k 0 0xC2 0xDF (omega arith) w (byte_at (take k bytes ++ more) 0 0xC2 0xDF p.0) in
      let c = back bytes more k 1 0x80 0xBF (omega arith) w (byte_at (take k bytes ++ more) 1 0x80 0xBF p.1) in
      both_ways _ not (two_from bytes 0xC2 0xDF c.within a.low_end a.high_end c.low_end c.high_end)

  pub no_longer : Row (take k bytes ++ more) → NoRow bytes → k ≤ sequence_len (take k bytes ++ more) → ⊥
  no_longer (no_row e none) not b = omega arith
  no_longer (one e t) not b = omega arith
  no_longer (two e t) not b = longer_two (sym e) b t not.not_two
  no_longer (three_e0 e t) not b = longer_three 0xE0 0xE0 0xA0 0xBF (sym e) b (three (take k bytes ++ more) 0xE0 0xE0 0xA0 0xBF t) (in_three_e0 bytes) not.not_three_e0
  no_longer (three_e1 e t) not b = longer_three 0xE1 0xEC 0x80 0xBF (sym e) b (three (take k bytes ++ more) 0xE1 0xEC 0x80 0xBF t) (in_three_e1 bytes) not.not_three_e1
  no_longer (three_ed e t) not b = longer_three 0xED 0xED 0x80 0x9F (sym e) b (three (take k bytes ++ more) 0xED 0xED 0x80 0x9F t) (in_three_ed bytes) not.not_three_ed
  no_longer (three_ee e t) not b = longer_three 0xEE 0xEF 0x80 0xBF (sym e) b (three (take k bytes ++ more) 0xEE 0xEF 0x80 0xBF t) (in_three_ee bytes) not.not_three_ee
  no_longer (four_f0 e t) not b = longer_four 0xF0 0xF0 0x90 0xBF (sym e) b (four (take k bytes ++ more) 0xF0 0xF0 0x90 0xBF t) (in_four_f0 bytes) not.not_four_f0
  no_longer (four_f1 e t) not b = longer_four 0xF1 0xF3 0x80 0xBF (sym e) b (four (take k bytes ++ more) 0xF1 0xF3 0x80 0xBF t) (in_four_f1 bytes) not.not_four_f1
  no_longer (four_f4 e t) not b = longer_four 0xF4 0xF4 0x80 0x8F (sym e) b (four (take k bytes ++ more) 0xF4 0xF4 0x80 0x8F t) (in_four_f4 bytes) not.not_four_f4

-- with bytes behind them that may stand third or fourth, the first two or three of a row are a sequence
forth : (bytes more : List ℕ) (k i low high : ℕ) → i < k → k ≤ length bytes → ByteAt bytes i low high → ByteAt (take k bytes ++ more) i low high
forth bytes more k i low high h w b =
    let e = same_byte bytes more k i h w in
    record {
      within = rw (length-append (take k bytes) more) (omega (arith, length-take-le k bytes w));
      low_end = rw e b.low_end;
      high_end = rw e b.high_end;
    }

added : (bytes more : List ℕ) (k j : ℕ) → k ≤ length bytes → j < length more → get_or more j 0 ≡ 0x80 → ByteAt (take k bytes ++ more) (k + j) 0x80 0xBF
added bytes more k j w h is =
    let len = length-take-le k bytes w in
    let e : get_or (take k bytes ++ more) (k + j) 0 ≡ 0x80 = subst (λ n. get_or (take k bytes ++ more) (n + j) 0 ≡ get_or more j 0) len (get_or-append-add (take k bytes) more j 0) ∙ is in
    record {
      within = rw (length-append (take k bytes) more) (omega arith);
      low_end = omega arith;
      high_end = omega arith;
    }

one_tail : AreBytes (0x80 ∷ [])
one_tail = All-cons (λ b. b < 256) 0x80 [] (omega arith) (All-nil (λ b. b < 256))

two_tails : AreBytes (0x80 ∷ 0x80 ∷ [])
two_tails = All-cons (λ b. b < 256) 0x80 (0x80 ∷ []) (omega arith) one_tail

begun_three : (bytes : List ℕ) (low high second_low second_high : ℕ) → 0xE0 ≤ low → high ≤ 0xEF → begins_pair bytes low high second_low second_high ≡ true
    → (NoRow (take 2 bytes ++ 0x80 ∷ []) → begins_three (take 2 bytes ++ 0x80 ∷ []) low high second_low second_high ≡ false) → BeginsSequence bytes 2
begun_three bytes low high second_low second_high l h t not =
    let pair = both bytes low high second_low second_high t in
    let w : 2 ≤ length bytes = omega (arith, pair.1.within) in
    let made = take 2 bytes ++ 0x80 ∷ [] in
    let a = forth bytes (0x80 ∷ []) 2 0 low high (omega arith) w pair.0 in
    let c = forth bytes (0x80 ∷ []) 2 1 second_low second_high (omega arith) w pair.1 in
    let d : ByteAt made 2 0x80 0xBF = added bytes (0x80 ∷ []) 2 0 w (omega arith) refl in
    let e = len_three made (kind_of made (row_of made))
    (λ none. both_ways _ (not none) (three_from made low high second_low second_high d.within a.low_end a.high_end c.low_end c.high_end d.low_end d.high_end))
    (omega (arith, a.low_end)) (omega (arith, a.high_end)) in
    (w, (0x80 ∷ [], one_tail, omega arith))

begun_four_two : (bytes : List ℕ) (low high second_low second_high : ℕ) → 0xF0 ≤ low → begins_pair bytes low high second_low second_high ≡ true
    → (NoRow (take 2 bytes ++ 0x80 ∷ 0x80 ∷ []) → begins_four (take 2 bytes ++ 0x80 ∷ 0x80 ∷ []) low high second_low second_high ≡ false) → BeginsSequence bytes 2
begun_four_two bytes low high second_low second_high l t not =
    let pair = both bytes low high second_low second_high t in
    let w : 2 ≤ length bytes = omega (arith, pair.1.within) in
    let made = take 2 bytes ++ 0x80 ∷ 0x80 ∷ [] in
    let a = forth bytes (0x80 ∷ 0x80 ∷ []) 2 0 low high (omega arith) w pair.0 in
    let c = forth bytes (0x80 ∷ 0x80 ∷ []) 2 1 second_low second_high (omega arith) w pair.1 in
    let d : ByteAt made 2 0x80 0xBF = added bytes (0x80 ∷ 0x80 ∷ []) 2 0 w (omega arith) refl in
    let f : ByteAt made 3 0x80 0xBF = added bytes (0x80 ∷ 0x80 ∷ []) 2 1 w (omega arith) refl in
    let e = len_four made (kind_of made (row_of made))
    (λ none. both_ways _ (not none) (four_from made low high second_low second_high f.within a.low_end a.high_end c.low_end c.high_end d.low_end d.high_end f.low_end f.high_end))
    (omega (arith, a.low_end)) in
    (w, (0x80 ∷ 0x80 ∷ [], two_tails, omega arith))

begun_four_three : (bytes : List ℕ) (low high second_low second_high : ℕ) → 0xF0 ≤ low → begins_pair bytes low high second_low second_high ≡ true → is_tail_at bytes 2 ≡ true
    → (NoRow (take 3 bytes ++ 0x80 ∷ []) → begins_four (take 3 bytes ++ 0x80 ∷ []) low high second_low second_high ≡ false) → BeginsSequence bytes 3
begun_four_three bytes low high second_low second_high l t tail not =
    let pair = both bytes low high second_low second_high t in
    let third = byte_at bytes 2 0x80 0xBF tail in
    let w : 3 ≤ length bytes = omega (arith, third.within) in
    let made = take 3 bytes ++ 0x80 ∷ [] in
    let a = forth bytes (0x80 ∷ []) 3 0 low high (omega arith) w pair.0 in
    let c = forth bytes (0x80 ∷ []) 3 1 second_low second_high (omega arith) w pair.1 in
    let d = forth bytes (0x80 ∷ []) 3 2 0x80 0xBF (omega arith) w third in
    let f : ByteAt made 3 0x80 0xBF = added bytes (0x80 ∷ []) 3 0 w (omega arith) refl in
    let e = len_four made (kind_of made (row_of made))
    (λ none. both_ways _ (not none) (four_from made low high second_low second_high f.within a.low_end a.high_end c.low_end c.high_end d.low_end d.high_end f.low_end f.high_end))
    (omega (arith, a.low_end)) in
    (w, (0x80 ∷ [], one_tail, omega arith))

from_three : (bytes : List ℕ) → two_of_three bytes ≡ true → BeginsSequence bytes 2
from_three bytes e = let f : (two_of_three bytes ≡ true → BeginsSequence bytes 2) = (λ h. ⊎_elim (λ h. ⊎_elim (λ h. ⊎_elim (λ t. begun_three bytes 0xE0 0xE0 0xA0 0xBF (omega arith) (omega arith) t (λ none. none.not_three_e0)) (λ t. begun_three bytes 0xE1 0xEC 0x80 0xBF (omega arith) (omega arith) t (λ none. none.not_three_e1)) (or_cases (begins_pair bytes 0xE0 0xE0 0xA0 0xBF) (begins_pair bytes 0xE1 0xEC 0x80 0xBF) h)) (λ t. begun_three bytes 0xED 0xED 0x80 0x9F (omega arith) (omega arith) t (λ none. none.not_three_ed)) (or_cases ((begins_pair bytes 0xE0 0xE0 0xA0 0xBF) || (begins_pair bytes 0xE1 0xEC 0x80 0xBF)) (begins_pair bytes 0xED 0xED 0x80 0x9F) h)) (λ t. begun_three bytes 0xEE 0xEF 0x80 0xBF (omega arith) (omega arith) t (λ none. none.not_three_ee)) (or_cases (((begins_pair bytes 0xE0 0xE0 0xA0 0xBF) || (begins_pair bytes 0xE1 0xEC 0x80 0xBF)) || (begins_pair bytes 0xED 0xED 0x80 0x9F)) (begins_pair bytes 0xEE 0xEF 0x80 0xBF) h)) in f e

from_four : (bytes : List ℕ) → two_of_four bytes ≡ true → BeginsSequence bytes 2
from_four bytes e = let f : (two_of_four bytes ≡ true → BeginsSequence bytes 2) = (λ h. ⊎_elim (λ h. ⊎_elim (λ t. begun_four_two bytes 0xF0 0xF0 0x90 0xBF (omega arith) t (λ none. none.not_four_f0)) (λ t. begun_four_two bytes 0xF1 0xF3 0x80 0xBF (omega arith) t (λ none. none.not_four_f1)) (or_cases (begins_pair bytes 0xF0 0xF0 0x90 0xBF) (begins_pair bytes 0xF1 0xF3 0x80 0xBF) h)) (λ t. begun_four_two bytes 0xF4 0xF4 0x80 0x8F (omega arith) t (λ none. none.not_four_f4)) (or_cases ((begins_pair bytes 0xF0 0xF0 0x90 0xBF) || (begins_pair bytes 0xF1 0xF3 0x80 0xBF)) (begins_pair bytes 0xF4 0xF4 0x80 0x8F) h)) in f e

from_four_three : (bytes : List ℕ) → two_of_four bytes ≡ true → is_tail_at bytes 2 ≡ true → BeginsSequence bytes 3
from_four_three bytes e tail = let f : (two_of_four bytes ≡ true → BeginsSequence bytes 3) = (λ h. ⊎_elim (λ h. ⊎_elim (λ t. begun_four_three bytes 0xF0 0xF0 0x90 0xBF (omega arith) t tail (λ none. none.not_four_f0)) (λ t. begun_four_three bytes 0xF1 0xF3 0x80 0xBF (omega arith) t tail (λ none. none.not_four_f1)) (or_cases (begins_pair bytes 0xF0 0xF0 0x90 0xBF) (begins_pair bytes 0xF1 0xF3 0x80 0xBF) h)) (λ t. begun_four_three bytes 0xF4 0xF4 0x80 0x8F (omega arith) t tail (λ none. none.not_four_f4)) (or_cases ((begins_pair bytes 0xF0 0xF0 0x90 0xBF) || (begins_pair bytes 0xF1 0xF3 0x80 0xBF)) (begins_pair bytes 0xF4 0xF4 0x80 0x8F) h)) in f e

-- the malformed bytes begin a sequence, where they are more than one
begins : (bytes : List ℕ) → 1 < malformed_len bytes → BeginsSequence bytes (malformed_len bytes)
unfolding malformed_len
begins bytes = by_tests (two_of_four bytes && is_tail_at bytes 2) refl (two_of_four bytes) refl (two_of_three bytes) refl
  where
    by_tests : (s : Bool) → (two_of_four bytes && is_tail_at bytes 2) ≡ s → (t : Bool) → two_of_four bytes ≡ t → (u : Bool) → two_of_three bytes ≡ u → 1 < malformed_len bytes → BeginsSequence bytes (malformed_len bytes)
    by_tests true e t f u g h =
        let p = and_parts (two_of_four bytes) (is_tail_at bytes 2) e in
        rw e (from_four_three bytes p.0 p.1)
    by_tests false e true f u g h = rw (e, or_left (two_of_four bytes) (two_of_three bytes) f) (from_four bytes f)
    by_tests false e false f true g h = rw (e, or_right (two_of_four bytes) (two_of_three bytes) g) (from_three bytes g)
    by_tests false e false f false g h =
        let one : 1 < 1 = rw (e, f, g) at h in
        absurd (omega arith)

some_malformed : (bytes : List ℕ) → 1 ≤ malformed_len bytes
unfolding malformed_len
some_malformed bytes = by_tests (two_of_four bytes && is_tail_at bytes 2) refl (two_of_four bytes || two_of_three bytes) refl
  where
    by_tests : (s : Bool) → (two_of_four bytes && is_tail_at bytes 2) ≡ s → (t : Bool) → (two_of_four bytes || two_of_three bytes) ≡ t → 1 ≤ malformed_len bytes
    by_tests true e t f = rw e (omega arith)
    by_tests false e true f = rw (e, f) (omega arith)
    by_tests false e false f = rw (e, f) (omega arith)

pub malformed_law : (bytes : List ℕ) → 0 < length bytes → sequence_len bytes ≡ 0 → IsLongestBegun bytes (malformed_len bytes)
malformed_law bytes some z = record {
  some = some_malformed bytes;
  begun = begins bytes;
  longest = λ k longer b. no_longer bytes z k longer (some_malformed bytes) b.0 b.1.0 (row_of (take k bytes ++ b.1.0)) (none_of bytes (row_of bytes) z) b.1.2;
}
