-- What `Display` writes.
use Rattle.std.proofs.Common.{◌≡◌, ℕ, ◌-◌, ◌<◌, ◌≤◌, Bool, true, false, cond, ◌==◌, List, [], ◌∷◌, ◌++◌, length, get_or, take, drop, map, codes, string_bytes, refl, sym, ap, ◌∙◌, arith}
use Rattle.std.specs.List.{flat_map}
use Rattle.std.specs.Str.Lossy.{utf8_lossy, utf8_valid_len, utf8_invalid_len, replacement_bytes}
use Rattle.std.specs.declared.string.String.{String}
use Rattle.std.proofs.lemmas.Bool.{eqb-true, eqb-false}
use Rattle.std.proofs.lemmas.List.{take_rest, take_all}
use Rattle.std.proofs.lemmas.List.Folds.{flat_map-map}
use Rattle.std.proofs.lemmas.Str.{utf8_lossy_chunk, utf8_lossy_last_chunk}
use Rattle.words.specs.Tokens.{comma_joined}

-- texts, each after a comma and a space
abbrev pub after_commas : {A : Type 0} → List (String A) → List ℕ
after_commas words = flat_map (λ word. codes ", " ++ string_bytes word) words

comma_joined-cons : {A : Type 0} (word : String A) (words : List (String A)) → comma_joined (map string_bytes (word ∷ words)) ≡ string_bytes word ++ after_commas words
comma_joined-cons word words = ap (λ z. string_bytes word ++ z) (flat_map-map (λ text. codes ", " ++ text) string_bytes words)

-- the first text, and all the others after it
pub all-joined : {A : Type 0} (shown words : List (String A)) (first : List ℕ) (d : String A) (n : ℕ) → shown ≡ words → 0 < length shown
    → first ≡ string_bytes (get_or shown 0 d) → length shown - 1 ≤ n
    → first ++ after_commas (take n (take (length shown - 1) (drop 1 shown))) ≡ comma_joined (map string_bytes words)
all-joined [] words first d n e some f all = absurd (omega arith)
all-joined (word ∷ rest) words first d n e some f all =
    let whole : take (length (word ∷ rest) - 1) (drop 1 (word ∷ rest)) ≡ rest = take_rest (word ∷ rest) 1 in
    let read : take n rest ≡ rest = take_all n rest (omega arith) in
    (λ i. f i ++ after_commas (take n (whole i))) ∙ (ap (λ z. string_bytes word ++ after_commas z) read ∙
    (sym (comma_joined-cons word rest) ∙ ap (λ z. comma_joined (map string_bytes z)) e))

-- bytes as UTF-8 with U+FFFD: their first chunk, and what follows it
module _ (bs valid malformed rest : List ℕ) (parts : bs ≡ valid ++ (malformed ++ rest)) (front : length valid ≡ utf8_valid_len bs)
    (behind : length malformed ≡ utf8_invalid_len (drop (utf8_valid_len bs) bs)) (last : length malformed ≡ 0 → length rest ≡ 0) where
  by-test : (t : Bool) → (length malformed == 0) ≡ t → utf8_lossy bs ≡ valid ++ (cond t [] replacement_bytes ++ utf8_lossy rest)
  by-test true e =
      let none : length malformed ≡ 0 = eqb-true (length malformed) 0 e in
      utf8_lossy_last_chunk bs valid malformed rest parts front none (last none)
  by-test false e = utf8_lossy_chunk bs valid malformed rest parts front behind (omega (arith, eqb-false (length malformed) 0 e))

  pub lossy-chunk : utf8_lossy bs ≡ valid ++ (cond (length malformed == 0) [] replacement_bytes ++ utf8_lossy rest)
  lossy-chunk = by-test (length malformed == 0) refl
