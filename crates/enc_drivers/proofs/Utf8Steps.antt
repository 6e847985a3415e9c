-- What the front of bytes tells of the unit in UTF-8.
use Rattle.std.proofs.Common.{◌≡◌, ℕ, eqb, ◌+◌, ◌-◌, ◌<◌, ◌≤◌, zero, suc, Bool, true, false, List, [], ◌∷◌, ◌++◌, length, get_or, take, drop, refl, sym, ap, subst, ◌∙◌, arith, inl, inr, ⊎_elim, length-append}
use Rattle.std.specs.Prelude.{◌⊎◌, ◌&&◌, Option, Some, None, IsSome}
use Rattle.std.specs.Option.{SomeIff}
use Rattle.std.specs.Char.{IsScalar, encode_utf8}
use Rattle.std.proofs.lemmas.Bool.{cases_lt, both_ways, and_parts, eqb-true, eqb-false}
use Rattle.std.proofs.lemmas.List.{append_assoc, append-nil, get_or_append_left, take-append-drop, take_at, take_all, take-append-le}
use Rattle.std.proofs.lemmas.List.Elements.{All-nil, All-cons, All-append, All-take}
use Rattle.enc_handles.specs.Utf8.{byte_in, begins_three, begins_four, sequence_len, sequence_scalar}
use Rattle.enc_handles.proofs.Sequences.{sequence-Decodes, encode-sequence}
use Rattle.enc_drivers.specs.declared.unit.Item.{Item}
use Rattle.enc_drivers.specs.declared.unit.Item.TheVariants.{One, Two, Malformed, Silent}
use Rattle.enc_drivers.specs.declared.unit.Mode.{Mode}
use Rattle.enc_drivers.specs.Units.{scalar_at, malformed_at, AreBytes}
use Rattle.enc_drivers.specs.Steps.{IsUndecided}
use Rattle.enc_drivers.specs.Codes.Utf8.{malformed_len, utf8_unit}
use Rattle.enc_drivers.specs.Lemmas.Utf8Law.{byte_at}
use Rattle.enc_drivers.proofs.Utf8Malformed.{malformed_law}
use Rattle.enc_drivers.proofs.Utf8RoundTrip.{utf8_round_trip}
use Rattle.enc_drivers.proofs.Utf8Rows.{NoRow, row_of, byte_in_from, two_from, three_from, four_from, kind_of, some_row, long_lead}

-- a sequence at the front stays, whatever follows
pub sequence_front : (mode : Mode) (front more : List ℕ) → 0 < sequence_len front → utf8_unit mode (front ++ more) ≡ scalar_at mode (sequence_scalar front) (sequence_len front)
sequence_front mode front more some =
    let d = sequence-Decodes front some in
    let c = sequence_scalar front in
    let rest = drop (sequence_len front) front in
    let split : front ++ more ≡ encode_utf8 c ++ (rest ++ more) = ap (λ l. l ++ more) d.front ∙ append_assoc (encode_utf8 c) rest more in
    ap (utf8_unit mode) split ∙ (utf8_round_trip mode c (rest ++ more) d.scalar ∙ ap (λ n. scalar_at mode c n) d.length_is)

-- one that ends in the front stands in it
sequence_within : (front more : List ℕ) → 0 < sequence_len (front ++ more) → sequence_len (front ++ more) ≤ length front → 0 < sequence_len front
sequence_within front more some within =
    let d = sequence-Decodes (front ++ more) some in
    let n = sequence_len (front ++ more) in
    let c = sequence_scalar (front ++ more) in
    let whole : front ++ more ≡ encode_utf8 c ++ drop n (front ++ more) = d.front in
    let taken : take n (front ++ more) ≡ encode_utf8 c = ap (take n) whole ∙ take_at (encode_utf8 c) (drop n (front ++ more)) n d.length_is in
    let here : take n front ≡ encode_utf8 c = sym (take-append-le n front more within) ∙ taken in
    let split : front ≡ encode_utf8 c ++ drop n front = sym (take-append-drop n front) ∙ ap (λ l. l ++ drop n front) here in
    subst (λ l. 0 < sequence_len l) (sym split) (encode-sequence c (drop n front) d.scalar)

take_past : (front more : List ℕ) (n j : ℕ) → n ≡ length front + j → take n (front ++ more) ≡ front ++ take j more
take_past [] more n j e =
    let same : n ≡ j = omega arith in
    ap (λ k. take k more) same
take_past (x ∷ front) more zero j e = absurd (omega arith)
take_past (x ∷ front) more (suc n) j e = ap (λ l. x ∷ l) (take_past front more n j (omega arith))

-- nothing goes on behind the front: its malformed bytes end in it, or its first byte begins no longer sequence
module _ (front : List ℕ) (some : 0 < length front) (no_sequence : sequence_len front ≡ 0) (ends : (malformed_len front < length front) ⊎ (byte_in front 0 0xC2 0xF4 ≡ false)) where
  -- so no sequence goes past the front
  not_past : (more : List ℕ) → AreBytes more → length front ≤ sequence_len (front ++ more) → 2 ≤ sequence_len (front ++ more) → ⊥
  not_past more are past long =
      ⊎_elim
      (λ inside.
      let whole : take (length front) front ≡ front = take_all (length front) front (omega arith) in
      let begun : length front ≤ sequence_len (take (length front) front ++ more) = subst (λ l. length front ≤ sequence_len (l ++ more)) (sym whole) past in
      (malformed_law front some no_sequence).longest (length front) inside (omega arith, (more, are, begun)))
      (λ no_lead.
      let lead = long_lead (front ++ more) (kind_of (front ++ more) (row_of (front ++ more))) long in
      let first : get_or (front ++ more) 0 0 ≡ get_or front 0 0 = get_or_append_left front more 0 0 some in
      both_ways (byte_in front 0 0xC2 0xF4) no_lead (byte_in_from front 0 0xC2 0xF4 some (omega (arith, lead.0)) (omega (arith, lead.1))))
      ends

  pub none_front : (more : List ℕ) → AreBytes more → sequence_len (front ++ more) ≡ 0
  none_front more are =
      ⊎_elim
      (λ there. ⊎_elim
      (λ past. absurd (not_past more are (omega arith) (omega arith)))
      (λ within. let inside = sequence_within front more there within in absurd (omega arith))
      (cases_lt (length front) (sequence_len (front ++ more))))
      (λ none. omega arith)
      (cases_lt 0 (sequence_len (front ++ more)))

  not_less : (more : List ℕ) → AreBytes more → malformed_len (front ++ more) < malformed_len front → ⊥
  not_less more are less =
      let whole : length (front ++ more) ≡ length front + length more = length-append front more in
      let here = malformed_law front some no_sequence in
      let there = malformed_law (front ++ more) (omega arith) (none_front more are) in
      let begun = here.begun (omega (arith, there.some)) in
      let same : take (malformed_len front) front ≡ take (malformed_len front) (front ++ more) = sym (take-append-le (malformed_len front) front more begun.0) in
      let goes : malformed_len front ≤ sequence_len (take (malformed_len front) (front ++ more) ++ begun.1.0) =
      subst (λ l. malformed_len front ≤ sequence_len (l ++ begun.1.0)) same begun.1.2 in
      there.longest (malformed_len front) less (omega (arith, begun.0), (begun.1.0, begun.1.1, goes))

  not_more : (more : List ℕ) → AreBytes more → malformed_len front < malformed_len (front ++ more) → ⊥
  not_more more are longer =
      let whole : length (front ++ more) ≡ length front + length more = length-append front more in
      let here = malformed_law front some no_sequence in
      let there = malformed_law (front ++ more) (omega arith) (none_front more are) in
      let n = malformed_len (front ++ more) in
      let begun = there.begun (omega (arith, here.some)) in
      let rest = begun.1.0 in
      ⊎_elim
      (λ past.
      let j = n - length front in
      let cut : take n (front ++ more) ≡ front ++ take j more = take_past front more n j (omega arith) in
      let split : take n (front ++ more) ++ rest ≡ front ++ (take j more ++ rest) = ap (λ l. l ++ rest) cut ∙ append_assoc front (take j more) rest in
      let goes : n ≤ sequence_len (front ++ (take j more ++ rest)) = subst (λ l. n ≤ sequence_len l) split begun.1.2 in
      not_past (take j more ++ rest) (All-append (λ b. b < 256) (take j more) rest (All-take (λ b. b < 256) j more are) begun.1.1) (omega arith) (omega (arith, here.some)))
      (λ within.
      let same : take n (front ++ more) ≡ take n front = take-append-le n front more within in
      let goes : n ≤ sequence_len (take n front ++ rest) = subst (λ l. n ≤ sequence_len (l ++ rest)) same begun.1.2 in
      here.longest n longer (within, (rest, begun.1.1, goes)))
      (cases_lt (length front) n)

  pub same_malformed : (more : List ℕ) → AreBytes more → malformed_len (front ++ more) ≡ malformed_len front
  same_malformed more are =
      ⊎_elim (λ less. absurd (not_less more are less))
      (λ at_least. ⊎_elim (λ longer. absurd (not_more more are longer)) (λ at_most. omega arith) (cases_lt (malformed_len front) (malformed_len (front ++ more))))
      (cases_lt (malformed_len (front ++ more)) (malformed_len front))

  pub malformed_front : (mode : Mode) (more : List ℕ) → AreBytes more → utf8_unit mode (front ++ more) ≡ malformed_at mode (malformed_len front)
  unfolding utf8_unit
  malformed_front mode more are = rw (none_front more are, same_malformed more are) refl

pub malformed_alone : (mode : Mode) (front : List ℕ) → sequence_len front ≡ 0 → utf8_unit mode front ≡ malformed_at mode (malformed_len front)
unfolding utf8_unit
malformed_alone mode front none = rw none refl

-- bytes that make a sequence of a lead
record Completed (b : ℕ) : Type 0 where
  more : List ℕ
  are : AreBytes more
  is : 0 < sequence_len (b ∷ more)

one_more : (y : ℕ) → y < 256 → AreBytes (y ∷ [])
one_more y h = All-cons (λ b. b < 256) y [] h (All-nil (λ b. b < 256))

two_more : (y : ℕ) → y < 256 → AreBytes (y ∷ 0x80 ∷ [])
two_more y h = All-cons (λ b. b < 256) y (0x80 ∷ []) h (one_more 0x80 (omega arith))

three_more : (y : ℕ) → y < 256 → AreBytes (y ∷ 0x80 ∷ 0x80 ∷ [])
three_more y h = All-cons (λ b. b < 256) y (0x80 ∷ 0x80 ∷ []) h (two_more 0x80 (omega arith))

made : (bytes : List ℕ) → (NoRow bytes → ⊥) → 0 < sequence_len bytes
made bytes some = some_row bytes (kind_of bytes (row_of bytes)) some

completed_three : (b y low high second_low second_high : ℕ) → low ≤ b → b ≤ high → second_low ≤ y → y ≤ second_high → y < 256
    → (NoRow (b ∷ y ∷ 0x80 ∷ []) → begins_three (b ∷ y ∷ 0x80 ∷ []) low high second_low second_high ≡ false) → Completed b
completed_three b y low high second_low second_high h k l m small not = record {
  more = y ∷ 0x80 ∷ [];
  are = two_more y small;
  is = made (b ∷ y ∷ 0x80 ∷ []) (λ none. both_ways _ (not none) (three_from (b ∷ y ∷ 0x80 ∷ []) low high second_low second_high (omega arith) h k l m (omega arith) (omega arith)));
}

completed_four : (b y low high second_low second_high : ℕ) → low ≤ b → b ≤ high → second_low ≤ y → y ≤ second_high → y < 256
    → (NoRow (b ∷ y ∷ 0x80 ∷ 0x80 ∷ []) → begins_four (b ∷ y ∷ 0x80 ∷ 0x80 ∷ []) low high second_low second_high ≡ false) → Completed b
completed_four b y low high second_low second_high h k l m small not = record {
  more = y ∷ 0x80 ∷ 0x80 ∷ [];
  are = three_more y small;
  is = made (b ∷ y ∷ 0x80 ∷ 0x80 ∷ [])
      (λ none. both_ways _ (not none) (four_from (b ∷ y ∷ 0x80 ∷ 0x80 ∷ []) low high second_low second_high (omega arith) h k l m (omega arith) (omega arith) (omega arith) (omega arith)));
}

completed : (b : ℕ) → 0xC2 ≤ b → b ≤ 0xF4 → Completed b
completed b low high =
    ⊎_elim (λ two. record {
      more = 0x80 ∷ [];
      are = one_more 0x80 (omega arith);
      is = made (b ∷ 0x80 ∷ []) (λ none. both_ways _ none.not_two (two_from (b ∷ 0x80 ∷ []) 0xC2 0xDF (omega arith) (omega arith) (omega arith) (omega arith) (omega arith)));
    })
    (λ past_two. ⊎_elim (λ e0. completed_three b 0xA0 0xE0 0xE0 0xA0 0xBF (omega arith) (omega arith) (omega arith) (omega arith) (omega arith) (λ none. none.not_three_e0))
    (λ past_e0. ⊎_elim (λ e1. completed_three b 0x80 0xE1 0xEC 0x80 0xBF (omega arith) (omega arith) (omega arith) (omega arith) (omega arith) (λ none. none.not_three_e1))
    (λ past_e1. ⊎_elim (λ ed. completed_three b 0x80 0xED 0xED 0x80 0x9F (omega arith) (omega arith) (omega arith) (omega arith) (omega arith) (λ none. none.not_three_ed))
    (λ past_ed. ⊎_elim (λ ee. completed_three b 0x80 0xEE 0xEF 0x80 0xBF (omega arith) (omega arith) (omega arith) (omega arith) (omega arith) (λ none. none.not_three_ee))
    (λ past_ee. ⊎_elim (λ f0. completed_four b 0x90 0xF0 0xF0 0x90 0xBF (omega arith) (omega arith) (omega arith) (omega arith) (omega arith) (λ none. none.not_four_f0))
    (λ past_f0. ⊎_elim (λ f1. completed_four b 0x80 0xF1 0xF3 0x80 0xBF (omega arith) (omega arith) (omega arith) (omega arith) (omega arith) (λ none. none.not_four_f1))
    (λ past_f1. completed_four b 0x80 0xF4 0xF4 0x80 0x8F (omega arith) (omega arith) (omega arith) (omega arith) (omega arith) (λ none. none.not_four_f4))
    (cases_lt b 0xF4)) (cases_lt b 0xF1)) (cases_lt b 0xF0)) (cases_lt b 0xEE)) (cases_lt b 0xED)) (cases_lt b 0xE1)) (cases_lt b 0xE0)

one_byte : (front : List ℕ) → 0 < length front → length front ≤ 1 → front ≡ get_or front 0 0 ∷ []
one_byte [] h l = absurd (omega arith)
one_byte (a ∷ []) h l = refl
one_byte (a ∷ b ∷ front) h l = absurd (omega arith)

-- a front that begins a sequence, with bytes behind it that make one
pub begun_undecided : (mode : Mode) (front : List ℕ) → 0 < length front → sequence_len front ≡ 0 → malformed_len front ≡ length front → byte_in front 0 0xC2 0xF4 ≡ true → IsUndecided utf8_unit mode front
begun_undecided mode front some none whole lead = by_length (cases_lt 1 (length front))
  where
    is_malformed : Item → Bool
    is_malformed (One c) = false
    is_malformed (Two c d) = false
    is_malformed Malformed = true
    is_malformed Silent = false

    differ : (more : List ℕ) → 0 < sequence_len (front ++ more) → utf8_unit mode (front ++ []) ≡ utf8_unit mode (front ++ more) → ⊥
    differ more there same =
        let e : malformed_at mode (malformed_len front) ≡ scalar_at mode (sequence_scalar (front ++ more)) (sequence_len (front ++ more)) =
        sym (ap (utf8_unit mode) (append-nil front) ∙ malformed_alone mode front none)
        ∙ (same ∙ (ap (utf8_unit mode) (sym (append-nil (front ++ more))) ∙ sequence_front mode (front ++ more) [] there)) in
        both_ways true (ap (λ u. is_malformed u.item) e) refl

    undecided : (more : List ℕ) → AreBytes more → 0 < sequence_len (front ++ more) → IsUndecided utf8_unit mode front
    undecided more are there = record {
      one = [];
      other = more;
      one_bytes = All-nil (λ b. b < 256);
      other_bytes = are;
      differ = differ more there;
    }

    by_length : (1 < length front) ⊎ (length front ≤ 1) → IsUndecided utf8_unit mode front
    by_length (inl long) =
        let begun = (malformed_law front some none).begun (omega arith) in
        let all : take (malformed_len front) front ≡ front = take_all (malformed_len front) front (omega arith) in
        let goes : malformed_len front ≤ sequence_len (front ++ begun.1.0) = subst (λ l. malformed_len front ≤ sequence_len (l ++ begun.1.0)) all begun.1.2 in
        undecided begun.1.0 begun.1.1 (omega arith)
    by_length (inr short) =
        let b = byte_at front 0 0xC2 0xF4 lead in
        let one : front ≡ get_or front 0 0 ∷ [] = one_byte front some short in
        let c = completed (get_or front 0 0) b.low_end b.high_end in
        undecided c.more c.are (subst (λ l. 0 < sequence_len (l ++ c.more)) (sym one) c.is)

-- The scalar of a sequence is one, and `char::from_u32` gives it.
pub some_scalar : (o : Option ℕ) (c : ℕ) → SomeIff o (IsScalar c) c → IsScalar c → IsSome o
some_scalar None c h s = absurd (h s)
some_scalar (Some x) c h s = refl

malformed_within : (front : List ℕ) → 0 < length front → sequence_len front ≡ 0 → malformed_len front ≤ length front
malformed_within front some none =
    ⊎_elim (λ long. ((malformed_law front some none).begun long).0) (λ short. omega arith) (cases_lt 1 (malformed_len front))

-- the test of a front that goes on
pub goes_on_from : (front : List ℕ) (n : ℕ) → n ≡ malformed_len front → (eqb n (length front) && byte_in front 0 0xC2 0xF4) ≡ true
    → (malformed_len front ≡ length front) × (byte_in front 0 0xC2 0xF4 ≡ true)
goes_on_from front n is e =
    let parts = and_parts (eqb n (length front)) (byte_in front 0 0xC2 0xF4) e in
    (sym is ∙ eqb-true n (length front) parts.0, parts.1)

pub ends_from : (front : List ℕ) (n : ℕ) → 0 < length front → sequence_len front ≡ 0 → n ≡ malformed_len front → (eqb n (length front) && byte_in front 0 0xC2 0xF4) ≡ false
    → (malformed_len front < length front) ⊎ (byte_in front 0 0xC2 0xF4 ≡ false)
ends_from front n some none is e = by_test (eqb n (length front)) refl e
  where
    by_test : (t : Bool) → eqb n (length front) ≡ t → (t && byte_in front 0 0xC2 0xF4) ≡ false → (malformed_len front < length front) ⊎ (byte_in front 0 0xC2 0xF4 ≡ false)
    by_test true f g = inr g
    by_test false f g =
        let other = eqb-false n (length front) f in
        let within = malformed_within front some none in
        inl (omega arith)
