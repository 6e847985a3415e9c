-- A B text whose spare bits are cleared is the encoding of its value.
use Rattle.std.proofs.Common.{◌≡◌, ℕ, zero, suc, ◌+◌, ◌-◌, ◌*◌, ◌/◌, ◌%◌, ◌^◌, ◌<◌, ◌≤◌, Bool, true, false, nat_lt, nat_le, ◌==◌, ◌&&◌, ◌||◌, Some, None, Ok, Err, ◌↔◌, List, [], ◌∷◌, ◌++◌, length, take, drop, replicate, reverse, slice_index, slice_set, inl, inr, refl, sym, ap, ◌∙◌, arith}
use Rattle.std.specs.List.{flat_map, list_all, suffix_len}
use Rattle.std.proofs.lemmas.Bool.{agree_below, agree_below_at, and_parts, or_cases, cases_lt, eqb-true, leb-true, ltb-true, cond-true, cond-false}
use Rattle.std.proofs.lemmas.List.{ext_get_or, get_or-drop, get_or-reverse, get_or-replicate, length-drop, length-replicate, length-take, nil_from_length, take-append-drop}
use Rattle.std.proofs.lemmas.List.Sums.{prefix_len_passes, suffix_len-le-length}
use Rattle.std.specs.declared.result.Result.{Result}
use Rattle.base64.specs.declared.decode.DecodeError.{DecodeError}
use Rattle.base64.specs.declared.engine.general_purpose.GeneralPurpose.{GeneralPurpose}
use Rattle.base64.specs.declared.engine.DecodePaddingMode.TheVariants.{RequireCanonical}
use Rattle.base64.specs.Engines.{standard}
use Rattle.base64.specs.GeneralPurpose.{IsBytes, IsConfig, IsStrict, decode_of, encode_of, engine_config, engine_padding, engine_symbols}
use Rattle.base64.specs.Rfc4648.{encode, encode_symbols, padding_len as octet_padding_len}
use Rattle.words.specs.Base64.{b_value, bits, is_base64, is_letter, letter_value, letters, octets, padding_len}
use Rattle.words.specs.SpareBits.{alphabet, cleared, rounded_letter}
use Rattle.words.proofs.BitGroups.{octets-four, octets-three, octets-two}

-- Letters in fours, for any table of letters t and any values v that it reads back.
module _ (t : List ℕ) (p : ℕ → Bool) (v : ℕ → ℕ) (small : (b : ℕ) → p b ≡ true → v b < 64) (reads : (b : ℕ) → p b ≡ true → slice_index t (v b) ≡ b) where
  -- the octets of letters
  abbrev value : List ℕ → List ℕ
  value xs = octets (flat_map (λ b. bits 6 (v b)) xs)

  abbrev rounded : ℕ → ℕ → ℕ
  rounded unit b = slice_index t (v b / unit * unit)

  symbols-two : (a b : ℕ) → p a ≡ true → p b ≡ true → encode_symbols t (value (a ∷ b ∷ [])) ≡ a ∷ rounded 16 b ∷ []
  unfolding encode_symbols
  symbols-two a b pa pb =
      let sb : v b < 64 = small b pb in
      let first : (v a * 4 + v b / 16) / 4 ≡ v a = omega arith in
      let second : (v a * 4 + v b / 16) % 4 * 16 ≡ v b / 16 * 16 = omega arith in
      ap (encode_symbols t) (octets-two (v a) (v b) (small a pa) sb)
      ∙ (λ i. (ap (slice_index t) first ∙ reads a pa) i ∷ ap (slice_index t) second i ∷ [])

  symbols-three : (a b c : ℕ) → p a ≡ true → p b ≡ true → p c ≡ true
      → encode_symbols t (value (a ∷ b ∷ c ∷ [])) ≡ a ∷ b ∷ rounded 4 c ∷ []
  unfolding encode_symbols
  symbols-three a b c pa pb pc =
      let sb : v b < 64 = small b pb in
      let sc : v c < 64 = small c pc in
      let first : (v a * 4 + v b / 16) / 4 ≡ v a = omega arith in
      let second : (v a * 4 + v b / 16) % 4 * 16 + (v b % 16 * 16 + v c / 4) / 16 ≡ v b = omega arith in
      let third : (v b % 16 * 16 + v c / 4) % 16 * 4 ≡ v c / 4 * 4 = omega arith in
      ap (encode_symbols t) (octets-three (v a) (v b) (v c) (small a pa) sb sc)
      ∙ (λ i. (ap (slice_index t) first ∙ reads a pa) i ∷ (ap (slice_index t) second ∙ reads b pb) i ∷ ap (slice_index t) third i ∷ [])

  symbols-four : (a b c d : ℕ) (rest : List ℕ) → p a ≡ true → p b ≡ true → p c ≡ true → p d ≡ true
      → encode_symbols t (value (a ∷ b ∷ c ∷ d ∷ rest)) ≡ a ∷ b ∷ c ∷ d ∷ encode_symbols t (value rest)
  unfolding encode_symbols
  symbols-four a b c d rest pa pb pc pd =
      let sb : v b < 64 = small b pb in
      let sc : v c < 64 = small c pc in
      let sd : v d < 64 = small d pd in
      let first : (v a * 4 + v b / 16) / 4 ≡ v a = omega arith in
      let second : (v a * 4 + v b / 16) % 4 * 16 + (v b % 16 * 16 + v c / 4) / 16 ≡ v b = omega arith in
      let third : (v b % 16 * 16 + v c / 4) % 16 * 4 + (v c % 4 * 64 + v d) / 64 ≡ v c = omega arith in
      let fourth : (v c % 4 * 64 + v d) % 64 ≡ v d = omega arith in
      ap (encode_symbols t) (octets-four (v a) (v b) (v c) (v d) (flat_map (λ x. bits 6 (v x)) rest) (small a pa) sb sc sd)
      ∙ (λ i. (ap (slice_index t) first ∙ reads a pa) i ∷ (ap (slice_index t) second ∙ reads b pb) i
      ∷ (ap (slice_index t) third ∙ reads c pc) i ∷ (ap (slice_index t) fourth ∙ reads d pd) i ∷ encode_symbols t (value rest))

  -- each of the first four letters, and the rest
  four_parts : (a b c d : ℕ) (rest : List ℕ) → list_all p (a ∷ b ∷ c ∷ d ∷ rest) ≡ true
      → (p a ≡ true) × (p b ≡ true) × (p c ≡ true) × (p d ≡ true) × (list_all p rest ≡ true)
  four_parts a b c d rest h =
      let qa = and_parts (p a) (list_all p (b ∷ c ∷ d ∷ rest)) h in
      let qb = and_parts (p b) (list_all p (c ∷ d ∷ rest)) qa.1 in
      let qc = and_parts (p c) (list_all p (d ∷ rest)) qb.1 in
      let qd = and_parts (p d) (list_all p rest) qc.1 in
      (qa.0, qb.0, qc.0, qd.0, qd.1)

  -- the symbols of the value are the letters, with the last one rounded
  symbols-value : (xs end : List ℕ) (i n : ℕ) → list_all p xs ≡ true → i + 1 ≡ length xs → (length xs + n) % 4 ≡ 0 → n ≤ 2
      → encode_symbols t (value xs) ++ end ≡ slice_set (xs ++ end) i (rounded (4 ^ n) (slice_index (xs ++ end) i))
  unfolding encode_symbols octets
  symbols-value [] end i n h last whole few = absurd (omega arith)
  symbols-value (a ∷ []) end i n h last whole few = absurd (omega arith)
  symbols-value (a ∷ b ∷ []) end i n h last whole few =
      let at : i ≡ 1 = omega arith in
      let two : n ≡ 2 = omega arith in
      let qa = and_parts (p a) (list_all p (b ∷ [])) h in
      let qb = and_parts (p b) true qa.1 in
      rw (at, two) (ap (λ z. z ++ end) (symbols-two a b qa.0 qb.0))
  symbols-value (a ∷ b ∷ c ∷ []) end i n h last whole few =
      let at : i ≡ 2 = omega arith in
      let one : n ≡ 1 = omega arith in
      let qa = and_parts (p a) (list_all p (b ∷ c ∷ [])) h in
      let qb = and_parts (p b) (list_all p (c ∷ [])) qa.1 in
      let qc = and_parts (p c) true qb.1 in
      rw (at, one) (ap (λ z. z ++ end) (symbols-three a b c qa.0 qb.0 qc.0))
  symbols-value (a ∷ b ∷ c ∷ d ∷ []) end i n h last whole few =
      let at : i ≡ 3 = omega arith in
      let none : n ≡ 0 = omega arith in
      let q = four_parts a b c d [] h in
      let same : v d / 1 * 1 ≡ v d = omega arith in
      rw (at, none)
      (ap (λ z. z ++ end) (symbols-four a b c d [] q.0 q.1 q.2 q.3)
      ∙ (λ k. a ∷ b ∷ c ∷ sym (ap (slice_index t) same ∙ reads d q.3) k ∷ end))
  symbols-value (a ∷ b ∷ c ∷ d ∷ e ∷ rest) end i n h last whole few =
      let at : i ≡ suc (suc (suc (suc (i - 4)))) = omega arith in
      let q = four_parts a b c d (e ∷ rest) h in
      let ih = symbols-value (e ∷ rest) end (i - 4) n q.4 (omega arith) (omega arith) few in
      ap (λ z. z ++ end) (symbols-four a b c d (e ∷ rest) q.0 q.1 q.2 q.3)
      ∙ (λ k. a ∷ b ∷ c ∷ d ∷ ih k)
      ∙ sym (ap (λ z. slice_set ((a ∷ b ∷ c ∷ d ∷ e ∷ rest) ++ end) z (rounded (4 ^ n) (slice_index ((a ∷ b ∷ c ∷ d ∷ e ∷ rest) ++ end) z))) at)

  -- the value takes as many `=` as the text has
  padding-value : (xs : List ℕ) (n : ℕ) → list_all p xs ≡ true → (length xs + n) % 4 ≡ 0 → n ≤ 2 → octet_padding_len (length (value xs)) ≡ n
  unfolding octets
  padding-value [] n h whole few = omega arith
  padding-value (a ∷ []) n h whole few = absurd (omega arith)
  padding-value (a ∷ b ∷ []) n h whole few =
      let two : n ≡ 2 = omega arith in
      let qa = and_parts (p a) (list_all p (b ∷ [])) h in
      let qb = and_parts (p b) true qa.1 in
      ap (λ z. octet_padding_len (length z)) (octets-two (v a) (v b) (small a qa.0) (small b qb.0)) ∙ sym two
  padding-value (a ∷ b ∷ c ∷ []) n h whole few =
      let one : n ≡ 1 = omega arith in
      let qa = and_parts (p a) (list_all p (b ∷ c ∷ [])) h in
      let qb = and_parts (p b) (list_all p (c ∷ [])) qa.1 in
      let qc = and_parts (p c) true qb.1 in
      ap (λ z. octet_padding_len (length z)) (octets-three (v a) (v b) (v c) (small a qa.0) (small b qb.0) (small c qc.0)) ∙ sym one
  padding-value (a ∷ b ∷ c ∷ d ∷ rest) n h whole few =
      let q = four_parts a b c d rest h in
      let ih : (3 - length (value rest) % 3) % 3 ≡ n = padding-value rest n q.4 (omega arith) few in
      let more : (3 - suc (suc (suc (length (value rest)))) % 3) % 3 ≡ (3 - length (value rest) % 3) % 3 = omega arith in
      ap (λ z. octet_padding_len (length z)) (octets-four (v a) (v b) (v c) (v d) (flat_map (λ x. bits 6 (v x)) rest) (small a q.0) (small b q.1) (small c q.2) (small d q.3))
      ∙ more ∙ ih

  IsBytes-cons : (x : ℕ) (xs : List ℕ) → x < 256 → IsBytes xs → IsBytes (x ∷ xs)
  IsBytes-cons x xs h hs zero = h
  IsBytes-cons x xs h hs (suc i) = hs i

  IsBytes-nil : IsBytes []
  IsBytes-nil i = omega arith

  IsBytes-value : (xs : List ℕ) (n : ℕ) → list_all p xs ≡ true → (length xs + n) % 4 ≡ 0 → n ≤ 2 → IsBytes (value xs)
  unfolding octets
  IsBytes-value [] n h whole few = IsBytes-nil
  IsBytes-value (a ∷ []) n h whole few = absurd (omega arith)
  IsBytes-value (a ∷ b ∷ []) n h whole few =
      let qa = and_parts (p a) (list_all p (b ∷ [])) h in
      let qb = and_parts (p b) true qa.1 in
      let sa : v a < 64 = small a qa.0 in
      let sb : v b < 64 = small b qb.0 in
      rw (octets-two (v a) (v b) sa sb) (IsBytes-cons (v a * 4 + v b / 16) [] (omega arith) IsBytes-nil)
  IsBytes-value (a ∷ b ∷ c ∷ []) n h whole few =
      let qa = and_parts (p a) (list_all p (b ∷ c ∷ [])) h in
      let qb = and_parts (p b) (list_all p (c ∷ [])) qa.1 in
      let qc = and_parts (p c) true qb.1 in
      let sa : v a < 64 = small a qa.0 in
      let sb : v b < 64 = small b qb.0 in
      let sc : v c < 64 = small c qc.0 in
      let second = IsBytes-cons (v b % 16 * 16 + v c / 4) [] (omega arith) IsBytes-nil in
      rw (octets-three (v a) (v b) (v c) sa sb sc) (IsBytes-cons (v a * 4 + v b / 16) ((v b % 16 * 16 + v c / 4) ∷ []) (omega arith) second)
  IsBytes-value (a ∷ b ∷ c ∷ d ∷ rest) n h whole few =
      let q = four_parts a b c d rest h in
      let sa : v a < 64 = small a q.0 in
      let sb : v b < 64 = small b q.1 in
      let sc : v c < 64 = small c q.2 in
      let sd : v d < 64 = small d q.3 in
      let ih = IsBytes-value rest n q.4 (omega arith) few in
      rw (octets-four (v a) (v b) (v c) (v d) (flat_map (λ x. bits 6 (v x)) rest) sa sb sc sd)
      (IsBytes-cons (v a * 4 + v b / 16) ((v b % 16 * 16 + v c / 4) ∷ (v c % 4 * 64 + v d) ∷ value rest) (omega arith)
      (IsBytes-cons (v b % 16 * 16 + v c / 4) ((v c % 4 * 64 + v d) ∷ value rest) (omega arith)
      (IsBytes-cons (v c % 4 * 64 + v d) (value rest) (omega arith) ih)))

-- a letter is below 123
below-123 : (b : ℕ) → is_letter b ≡ true → b < 123
below-123 b h =
    let upper : Bool = nat_le 65 b && nat_le b 90 in
    let lower : Bool = nat_le 97 b && nat_le b 122 in
    let digit : Bool = nat_le 48 b && nat_le b 57 in
    elim (or_cases (((upper || lower) || digit) || b == 43) (b == 47) h) [
      | inr slash ↦ let e = eqb-true b 47 slash in omega arith
      | inl h3 ↦ elim (or_cases ((upper || lower) || digit) (b == 43) h3) [
        | inr plus ↦ let e = eqb-true b 43 plus in omega arith
        | inl h2 ↦ elim (or_cases (upper || lower) digit h2) [
          | inr d ↦ let e = leb-true b 57 (and_parts (nat_le 48 b) (nat_le b 57) d).1 in omega arith
          | inl h1 ↦ elim (or_cases upper lower h1) [
            | inl u ↦ let e = leb-true b 90 (and_parts (nat_le 65 b) (nat_le b 90) u).1 in omega arith
            | inr l ↦ let e = leb-true b 122 (and_parts (nat_le 97 b) (nat_le b 122) l).1 in omega arith
          ]
        ]
      ]
    ]

-- a letter's value is below 64, and the alphabet reads it back
is_read : ℕ → Bool
is_read b = nat_lt (letter_value b) 64 && (slice_index alphabet (letter_value b) == b)

each-read : (b : ℕ) → is_letter b ≡ true → is_read b ≡ true
unfolding is_read
each-read b h =
    let all : agree_below (λ x. is_letter x && is_read x) is_letter 123 ≡ true = refl in
    (and_parts (is_letter b) (is_read b) (agree_below_at (λ x. is_letter x && is_read x) is_letter 123 b all (below-123 b h) ∙ h)).1

letter-small : (b : ℕ) → is_letter b ≡ true → letter_value b < 64
unfolding is_read
letter-small b h = ltb-true (letter_value b) 64 (and_parts (nat_lt (letter_value b) 64) (slice_index alphabet (letter_value b) == b) (each-read b h)).0

letter-reads : (b : ℕ) → is_letter b ≡ true → slice_index alphabet (letter_value b) ≡ b
unfolding is_read
letter-reads b h = eqb-true (slice_index alphabet (letter_value b)) b (and_parts (nat_lt (letter_value b) 64) (slice_index alphabet (letter_value b) == b) (each-read b h)).1

-- a text is what stands before its last `=`s, and these
padded : (s : List ℕ) (c : ℕ) → s ≡ take (length s - suffix_len (λ b. b == c) s) s ++ replicate (suffix_len (λ b. b == c) s) c
padded s c =
    let within : suffix_len (λ b. b == c) s ≤ length s = suffix_len-le-length (λ b. b == c) s in
    let end : drop (length s - suffix_len (λ b. b == c) s) s ≡ replicate (suffix_len (λ b. b == c) s) c =
    ext_get_or 0 _ _
    (omega (arith, length-drop (length s - suffix_len (λ b. b == c) s) s, length-replicate (suffix_len (λ b. b == c) s) c))
    (λ i h.
    let low : i < suffix_len (λ b. b == c) s = omega (arith, length-drop (length s - suffix_len (λ b. b == c) s) s) in
    let passes = prefix_len_passes (λ b. b == c) (reverse s) (suffix_len (λ b. b == c) s - 1 - i) 0 (omega arith) in
    let place : length s - suffix_len (λ b. b == c) s + i ≡ length s - 1 - (suffix_len (λ b. b == c) s - 1 - i) = omega arith in
    get_or-drop (length s - suffix_len (λ b. b == c) s) s i 0 ∙ ap (slice_index s) place
    ∙ sym (get_or-reverse s (suffix_len (λ b. b == c) s - 1 - i) 0 (omega arith))
    ∙ eqb-true _ c passes
    ∙ sym (get_or-replicate (suffix_len (λ b. b == c) s) i c 0 low)) in
    sym (take-append-drop (length s - suffix_len (λ b. b == c) s) s) ∙ ap (λ z. take (length s - suffix_len (λ b. b == c) s) s ++ z) end

-- the octets of a text's letters
abbrev text_value : List ℕ → List ℕ
text_value s = octets (flat_map (λ b. bits 6 (letter_value b)) (letters s))

-- what the form of a text says
form : (s : List ℕ) → is_base64 s ≡ true → (length s % 4 ≡ 0) × (padding_len s ≤ 2) × (list_all is_letter (letters s) ≡ true)
form s h =
    let outer = and_parts ((length s % 4 == 0) && nat_le (padding_len s) 2) (list_all is_letter (letters s)) h in
    let inner = and_parts (length s % 4 == 0) (nat_le (padding_len s) 2) outer.0 in
    (eqb-true (length s % 4) 0 inner.0, leb-true (padding_len s) 2 inner.1, outer.1)

whole_letters : (s : List ℕ) → length s % 4 ≡ 0 → (length (letters s) + padding_len s) % 4 ≡ 0
whole_letters s h =
    let within : padding_len s ≤ length s = suffix_len-le-length (λ b. b == 61) s in
    let long : length (letters s) + padding_len s ≡ length s = omega (arith, length-take (length s - padding_len s) s) in
    rw long h

b_value-octets : (s : List ℕ) → is_base64 s ≡ true → b_value s ≡ Some (text_value s)
unfolding b_value
b_value-octets s h = cond-true (is_base64 s) (Some (text_value s)) None h

pub b_value-none : (s : List ℕ) → is_base64 s ≡ false → b_value s ≡ None
unfolding b_value
b_value-none s h = cond-false (is_base64 s) (Some (text_value s)) None h

IsBytes-text_value : (s : List ℕ) → is_base64 s ≡ true → IsBytes (text_value s)
IsBytes-text_value s h =
    let f = form s h in
    IsBytes-value alphabet is_letter letter_value letter-small letter-reads (letters s) (padding_len s) f.2 (whole_letters s f.0) f.1

-- a text without letters is empty
no_letters : (s : List ℕ) → is_base64 s ≡ true → length (letters s) ≡ 0 → s ≡ []
no_letters s h e =
    let f = form s h in
    let within : padding_len s ≤ length s = suffix_len-le-length (λ b. b == 61) s in
    let none : length s ≡ 0 = omega (arith, f.0, f.1, length-take (length s - padding_len s) s) in
    nil_from_length s none

cleared-encode : (s : List ℕ) → is_base64 s ≡ true → cleared s ≡ encode alphabet 61 true (text_value s)
unfolding encode_symbols octets
cleared-encode s h =
    let f = form s h in
    elim (cases_lt 0 (length (letters s))) [
      | inr none ↦
          let e : s ≡ [] = no_letters s h (omega arith) in
          rw e refl
      | inl some ↦
          let last : length (letters s) - 1 + 1 ≡ length (letters s) = omega arith in
          let split : s ≡ letters s ++ replicate (padding_len s) 61 = padded s 61 in
          let symbols = symbols-value alphabet is_letter letter_value letter-small letter-reads (letters s) (replicate (padding_len s) 61)
          (length (letters s) - 1) (padding_len s) f.2 last (whole_letters s f.0) f.1 in
          let count = padding-value alphabet is_letter letter_value letter-small letter-reads (letters s) (padding_len s) f.2 (whole_letters s f.0) f.1 in
          ap (λ z. slice_set z (length (letters s) - 1) (rounded_letter (4 ^ padding_len s) (slice_index z (length (letters s) - 1)))) split
          ∙ sym symbols
          ∙ ap (λ z. encode_symbols alphabet (text_value s) ++ replicate z 61) (sym count)
    ]

-- the engine's encoding of the value
cleared-encode_of : (e : GeneralPurpose) (s : List ℕ) → engine_symbols e ≡ alphabet → engine_padding e ≡ 61
    → IsConfig (engine_config e) true false RequireCanonical → is_base64 s ≡ true → cleared s ≡ encode_of e (text_value s)
cleared-encode_of e s symbols pad config h = rw (symbols, pad, config.0) (cleared-encode s h)

IsStrict-from : (e : GeneralPurpose) → IsConfig (engine_config e) true false RequireCanonical → IsStrict e
IsStrict-from e config = (config.1, rw config.2 config.0)

-- an engine over the letters that requires padding and allows no trailing bits, and what it says of an input under strictness
abbrev pub IsOurs : GeneralPurpose → Type 0
IsOurs e = (engine_symbols e ≡ alphabet) × (engine_padding e ≡ 61) × IsConfig (engine_config e) true false RequireCanonical

abbrev pub DecodesStrictly : GeneralPurpose → List ℕ → Type 0
DecodesStrictly e input = IsStrict e → (b : List ℕ) → IsBytes b → (decode_of e input ≡ Ok b) ↔ (input ≡ encode_of e b)

-- `STANDARD` is one
pub standard-is : IsOurs standard
standard-is = (refl, refl, (refl, refl, refl))

value-decoded : (e : GeneralPurpose) (s : List ℕ) → IsOurs e → is_base64 s ≡ true → DecodesStrictly e (cleared s) → decode_of e (cleared s) ≡ Ok (text_value s)
value-decoded e s ours h strict =
    (strict (IsStrict-from e ours.2) (text_value s) (IsBytes-text_value s h)).1 (cleared-encode_of e s ours.0 ours.1 ours.2 h)

ok_value : {E : Type 0} (r : Result (List ℕ) E) (v w : List ℕ) → r ≡ Ok v → r ≡ Ok w → v ≡ w
ok_value r v w a b = cc

no_error : {E : Type 0} (r : Result (List ℕ) E) (v : List ℕ) (d : E) → r ≡ Ok v → r ≡ Err d → ⊥
no_error r v d a b = cc

-- what the engine decodes is the value
pub decoded-value : (e : GeneralPurpose) (s v : List ℕ) → IsOurs e → is_base64 s ≡ true → DecodesStrictly e (cleared s) → decode_of e (cleared s) ≡ Ok v
    → Some v ≡ b_value s
decoded-value e s v ours h strict ok =
    ap (λ z. Some z) (ok_value (decode_of e (cleared s)) v (text_value s) ok (value-decoded e s ours h strict)) ∙ sym (b_value-octets s h)

-- it refuses no text of the right form
pub never_refused : (e : GeneralPurpose) (s : List ℕ) (d : DecodeError) → IsOurs e → is_base64 s ≡ true → DecodesStrictly e (cleared s) → decode_of e (cleared s) ≡ Err d → ⊥
never_refused e s d ours h strict err = no_error (decode_of e (cleared s)) (text_value s) d (value-decoded e s ours h strict) err
