-- What stands before the first byte that fails a test, where that byte is a question mark.
use Rattle.std.proofs.Common.{◌≡◌, ℕ, ◌+◌, ◌-◌, ◌<◌, Bool, true, false, not, cond, nat_lt, Option, Some, None, List, ◌∷◌, ◌++◌, length, get_or, take, drop, IsTrue, refl, sym, ap, ◌∙◌, arith}
use Rattle.std.specs.List.{All, position, position_or_len}
use Rattle.memchr.specs.Find.{is_byte2, IsFirstByte}
use Rattle.std.proofs.lemmas.Bool.{lt-ltb, le-ltb, not-false, cond-true, false_from_ne_true}
use Rattle.std.proofs.lemmas.List.{get_or_append_left, get_or_at, get_or-take, length-append, length-take, take-append-drop, drop_more, take_rest, get_or_default}
use Rattle.std.proofs.lemmas.List.Quantifiers.{position-Some}
use Rattle.std.proofs.lemmas.List.Sums.{position_or_len_is}
use Rattle.words.specs.Word.{is_field_byte, is_text_byte, IsField, IsText}
use Rattle.words.specs.Lexer.{SplitsAtMark}

module _ (p : ℕ → Bool) (mark : p 63 ≡ false) where
  -- where a run ends before a question mark
  run-position : (f rest : List ℕ) → All (λ b. IsTrue (p b)) f → position (λ b. not (p b)) (f ++ 63 ∷ rest) ≡ Some (length f)
  run-position f rest h =
      let s : List ℕ = f ++ 63 ∷ rest in
      let long : length f < length s = simp length-append (omega arith) in
      let e : position_or_len (λ b. not (p b)) s ≡ length f =
      position_or_len_is (λ b. not (p b)) s (length f) 0 (omega arith)
      (λ k l. ap (λ z. not (p z)) (get_or_append_left f (63 ∷ rest) 0 k l) ∙ ap not (h k 0 l))
      (λ l. ap (λ z. not (p z)) (get_or_at f 63 rest 0 (length f) refl) ∙ ap not mark) in
      ap (λ z. cond (nat_lt z (length s)) (Some z) None) e ∙ cond-true (nat_lt (length f) (length s)) (Some (length f)) None (lt-ltb (length f) (length s) long)

  -- no run ends before a question mark where every byte passes
  pub none-at-end : (s f rest : List ℕ) → position (λ b. not (p b)) s ≡ None → All (λ b. IsTrue (p b)) f → ¬ SplitsAtMark s f rest
  none-at-end s f rest e h q =
      let r = run-position f rest h in
      let t = ap (position (λ b. not (p b))) q in cc

  -- a run before a question mark ends at the first byte that fails
  pub run-ends : (s f rest : List ℕ) (n : ℕ) → position (λ b. not (p b)) s ≡ Some n → All (λ b. IsTrue (p b)) f → SplitsAtMark s f rest
      → (n ≡ length f) × (get_or s n 0 ≡ 63)
  run-ends s f rest n e h q =
      let r = run-position f rest h in
      let t = ap (position (λ b. not (p b))) q in
      let same : n ≡ length f = cc in
      (same, ap (λ z. get_or z n 0) q ∙ get_or_at f 63 rest 0 n (sym same))

  pub run-splits : (s : List ℕ) (n : ℕ) → position (λ b. not (p b)) s ≡ Some n → get_or s n 0 ≡ 63
      → All (λ b. IsTrue (p b)) (take n s) × SplitsAtMark s (take n s) (take (length s - (n + 1)) (drop (n + 1) s))
  run-splits s n e q =
      let w = position-Some (λ b. not (p b)) s n 0 e in
      let within : n < length s = w.0 in
      let passes : (k : ℕ) → k < n → p (get_or s k 0) ≡ true = λ k l. not-false (p (get_or s k 0)) (w.2 k l) in (
        (λ k d l.
            let low : k < n = omega (arith, length-take n s) in
            ap p (get_or-take n s k d low ∙ get_or_default s k d 0 (omega arith)) ∙ passes k low),
        sym (take-append-drop n s) ∙ ap (λ z. take n s ++ z) (drop_more s n 0 within ∙ (λ i. q i ∷ sym (take_rest s (n + 1)) i)),
      )

-- at a field
pub field-at-end : (s : List ℕ) → position (λ b. not (is_field_byte b)) s ≡ None → (f rest : List ℕ) → IsField f → ¬ SplitsAtMark s f rest
field-at-end s e f rest h = none-at-end is_field_byte refl s f rest e h.1

pub field-empty : (s : List ℕ) (n : ℕ) → position (λ b. not (is_field_byte b)) s ≡ Some n → n ≡ 0 → (f rest : List ℕ) → IsField f → ¬ SplitsAtMark s f rest
field-empty s n e z f rest h q = let r = run-ends is_field_byte refl s f rest n e h.1 q in absurd (omega (arith, r.0, h.0))

pub field-other : (s : List ℕ) (n : ℕ) → position (λ b. not (is_field_byte b)) s ≡ Some n → (get_or s n 0 ≡ 63 → ⊥) → (f rest : List ℕ) → IsField f → ¬ SplitsAtMark s f rest
field-other s n e z f rest h q = z (run-ends is_field_byte refl s f rest n e h.1 q).1

pub field-found : (s : List ℕ) (n : ℕ) → position (λ b. not (is_field_byte b)) s ≡ Some n → (n ≡ 0 → ⊥) → get_or s n 0 ≡ 63
    → IsField (take n s) × SplitsAtMark s (take n s) (take (length s - (n + 1)) (drop (n + 1) s))
field-found s n e z q =
    let r = run-splits is_field_byte refl s n e q in
    let w = position-Some (λ b. not (is_field_byte b)) s n 0 e in
    ((omega (arith, length-take n s, w.0), r.0), r.1)

-- at an encoded text
pub text-at-end : (s : List ℕ) → position (λ b. not (is_text_byte b)) s ≡ None → (t rest : List ℕ) → IsText t → ¬ SplitsAtMark s t rest
text-at-end s e t rest h = none-at-end is_text_byte refl s t rest e h

pub text-other : (s : List ℕ) (n : ℕ) → position (λ b. not (is_text_byte b)) s ≡ Some n → (get_or s n 0 ≡ 63 → ⊥) → (t rest : List ℕ) → IsText t → ¬ SplitsAtMark s t rest
text-other s n e z t rest h q = z (run-ends is_text_byte refl s t rest n e h q).1

pub text-found : (s : List ℕ) (n : ℕ) → position (λ b. not (is_text_byte b)) s ≡ Some n → get_or s n 0 ≡ 63
    → IsText (take n s) × SplitsAtMark s (take n s) (take (length s - (n + 1)) (drop (n + 1) s))
text-found s n e q = run-splits is_text_byte refl s n e q

twice-not : (t : Bool) → not (not t) ≡ t
twice-not true = refl
twice-not false = refl

-- where a search for a question mark or a space stops
pub text-end : (s : List ℕ) (found : Option ℕ) → IsFirstByte (is_byte2 63 32) s found → found ≡ position (λ b. not (is_text_byte b)) s
text-end s None h =
    let p : ℕ → Bool = λ b. not (is_text_byte b) in
    let e : position_or_len p s ≡ length s =
    position_or_len_is p s (length s) 0 (omega arith)
    (λ k l. twice-not (is_byte2 63 32 (get_or s k 0)) ∙ false_from_ne_true (is_byte2 63 32 (get_or s k 0)) (h k (omega arith) l))
    (λ l. absurd (omega (arith, l))) in
    sym (ap (λ z. cond (nat_lt z (length s)) (Some z) None) e ∙ ap (λ t. cond t (Some (length s)) None) (le-ltb (length s) (length s) (omega arith)))
text-end s (Some k) h =
    let p : ℕ → Bool = λ b. not (is_text_byte b) in
    let within : k < length s = h.0.high in
    let e : position_or_len p s ≡ k =
    position_or_len_is p s k 0 (omega arith)
    (λ j l. twice-not (is_byte2 63 32 (get_or s j 0)) ∙ false_from_ne_true (is_byte2 63 32 (get_or s j 0)) (h.0.before j (omega arith) l))
    (λ l. twice-not (is_byte2 63 32 (get_or s k 0)) ∙ h.1) in
    sym (ap (λ z. cond (nat_lt z (length s)) (Some z) None) e ∙ cond-true (nat_lt k (length s)) (Some k) None (lt-ltb k (length s) within))
