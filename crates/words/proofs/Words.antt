-- The word at a place: at most one, and `word_at` finds it.
use Rattle.std.proofs.Common.{◌≡◌, ℕ, Bool, true, false, ◌&&◌, cond, nat_eq, nat_lt, Option, Some, None, List, [], ◌∷◌, ◌++◌, length, take, drop, IsTrue, refl, sym, ap, ◌∙◌, subst, arith, append_assoc}
use Rattle.std.specs.List.{All, list_all, before_first, after_first, starts_with, position_or_len}
use Rattle.std.specs.Io.{StartsWith}
use Rattle.std.proofs.lemmas.Bool.{false≢true, eqb-true, and_from, and_parts, ltb-true, lt-ltb, false_from_ne_true, cond-true}
use Rattle.std.proofs.lemmas.List.{take_at, drop_at, drop-drop, take-append-drop}
use Rattle.std.proofs.lemmas.List.Sums.{AllPass-from_list_all, list_all-from_AllPass}
use Rattle.std.proofs.lemmas.List.Elements.{All-head, All-tail, All-weaker}
use Rattle.std.proofs.lemmas.Slice.Eq.{bytes_eq-Decides}
use Rattle.words.specs.Word.{Word, spelling, BeginsWith, word_at, IsWord, IsField, IsText, is_field_byte, is_text_byte, is_question_mark, fields_of, is_field, is_word}

abbrev pub NoMark : List ℕ → Type 0
NoMark xs = All (λ b. is_question_mark b ≡ false) xs

-- the question mark after a run without one is the first
position-run : (xs ys : List ℕ) → NoMark xs → position_or_len is_question_mark (xs ++ 63 ∷ ys) ≡ length xs
position-run [] ys h = refl
position-run (x ∷ xs) ys h =
    let e : is_question_mark x ≡ false = All-head (λ b. is_question_mark b ≡ false) x xs h in
    let r = position-run xs ys (All-tail (λ b. is_question_mark b ≡ false) x xs h) in
    rw e (rw r (omega arith))

pub before-run : (xs ys : List ℕ) → NoMark xs → before_first is_question_mark (xs ++ 63 ∷ ys) ≡ xs
before-run xs ys h = take_at xs (63 ∷ ys) (position_or_len is_question_mark (xs ++ 63 ∷ ys)) (sym (position-run xs ys h))

pub after-run : (xs ys : List ℕ) → NoMark xs → after_first is_question_mark (xs ++ 63 ∷ ys) ≡ ys
after-run xs ys h =
    rw (position-run xs ys h) (sym (drop-drop 1 (length xs) (xs ++ 63 ∷ ys)) ∙ ap (drop 1) (drop_at xs (63 ∷ ys) (length xs) refl))

-- no byte of a field or a text is a question mark
field-byte : (b : ℕ) → IsTrue (is_field_byte b) → is_question_mark b ≡ false
field-byte b h = false_from_ne_true (is_question_mark b) (λ e.
    let q : b ≡ 63 = eqb-true b 63 e in absurd (false≢true (rw q at h)))

text-byte : (b : ℕ) → IsTrue (is_text_byte b) → is_question_mark b ≡ false
text-byte b h = false_from_ne_true (is_question_mark b) (λ e.
    let q : b ≡ 63 = eqb-true b 63 e in absurd (false≢true (rw q at h)))

pub field-run : (xs : List ℕ) → IsField xs → NoMark xs
field-run xs h = All-weaker (λ b. IsTrue (is_field_byte b)) (λ b. is_question_mark b ≡ false) field-byte xs h.1

pub text-run : (xs : List ℕ) → IsText xs → NoMark xs
text-run xs h = All-weaker (λ b. IsTrue (is_text_byte b)) (λ b. is_question_mark b ≡ false) text-byte xs h

-- a word's spelling before more
pub spelling-append : (w : Word) (rest : List ℕ) → spelling w ++ rest ≡ 61 ∷ 63 ∷ (w.charset ++ 63 ∷ (w.encoding ++ 63 ∷ (w.text ++ 63 ∷ 61 ∷ rest)))
spelling-append w rest = simp append_assoc

-- the fields between the question marks of a word's spelling are the word's
pub fields-spelling : (w : Word) (rest : List ℕ) → IsWord w → fields_of (spelling w ++ rest) ≡ w
fields-spelling w rest h =
    let c = w.charset in let e = w.encoding in let t = w.text in
    let r2 : List ℕ = t ++ 63 ∷ 61 ∷ rest in
    let r1 : List ℕ = e ++ 63 ∷ r2 in
    let c1 : before_first is_question_mark (c ++ 63 ∷ r1) ≡ c = before-run c r1 (field-run c h.charset) in
    let c2 : after_first is_question_mark (c ++ 63 ∷ r1) ≡ r1 = after-run c r1 (field-run c h.charset) in
    let e1 : before_first is_question_mark (e ++ 63 ∷ r2) ≡ e = before-run e r2 (field-run e h.encoding) in
    let e2 : after_first is_question_mark (e ++ 63 ∷ r2) ≡ r2 = after-run e r2 (field-run e h.encoding) in
    let t1 : before_first is_question_mark (t ++ 63 ∷ 61 ∷ rest) ≡ t = before-run t (61 ∷ rest) (text-run t h.text) in
    let d1 : before_first is_question_mark (after_first is_question_mark (c ++ 63 ∷ r1)) ≡ e = ap (before_first is_question_mark) c2 ∙ e1 in
    let d2 : before_first is_question_mark (after_first is_question_mark (after_first is_question_mark (c ++ 63 ∷ r1))) ≡ t =
    ap (λ z. before_first is_question_mark (after_first is_question_mark z)) c2 ∙ (ap (before_first is_question_mark) e2 ∙ t1) in
    ap fields_of (spelling-append w rest) ∙ (λ i. record { charset = c1 i; encoding = d1 i; text = d2 i })

-- the test for a word decides
IsField-from_test : (xs : List ℕ) → is_field xs ≡ true → IsField xs
IsField-from_test xs h =
    let p = and_parts (nat_lt 0 (length xs)) (list_all is_field_byte xs) h in
    (ltb-true 0 (length xs) p.0, AllPass-from_list_all is_field_byte xs p.1)

test-from_IsField : (xs : List ℕ) → IsField xs → is_field xs ≡ true
test-from_IsField xs h = and_from (nat_lt 0 (length xs)) (list_all is_field_byte xs) (lt-ltb 0 (length xs) h.0) (list_all-from_AllPass is_field_byte xs h.1)

pub IsWord-from_test : (w : Word) → is_word w ≡ true → IsWord w
IsWord-from_test w h =
    let p = and_parts (is_field w.charset && is_field w.encoding) (list_all is_text_byte w.text) h in
    let q = and_parts (is_field w.charset) (is_field w.encoding) p.0 in
    record {
      charset = IsField-from_test w.charset q.0;
      encoding = IsField-from_test w.encoding q.1;
      text = AllPass-from_list_all is_text_byte w.text p.1;
    }

pub test-from_IsWord : (w : Word) → IsWord w → is_word w ≡ true
test-from_IsWord w h =
    and_from (is_field w.charset && is_field w.encoding) (list_all is_text_byte w.text)
    (and_from (is_field w.charset) (is_field w.encoding) (test-from_IsField w.charset h.charset) (test-from_IsField w.encoding h.encoding))
    (list_all-from_AllPass is_text_byte w.text h.text)

pub starts-from_StartsWith : (s p : List ℕ) → StartsWith s p → starts_with nat_eq s p ≡ true
starts-from_StartsWith s p h = (bytes_eq-Decides p (take (length p) s)).1 (sym h)

pub StartsWith-from_starts : (s p : List ℕ) → starts_with nat_eq s p ≡ true → StartsWith s p
StartsWith-from_starts s p h = sym ((bytes_eq-Decides p (take (length p) s)).0 h)

-- a list that begins with another is that one and more
pub split-starts : (s p : List ℕ) → StartsWith s p → s ≡ p ++ drop (length p) s
split-starts s p h = sym (take-append-drop (length p) s) ∙ ap (λ z. z ++ drop (length p) s) h

pub split-begins : (s : List ℕ) (w : Word) → BeginsWith s w → s ≡ spelling w ++ drop (length (spelling w)) s
split-begins s w h = split-starts s (spelling w) h.spelled

pub begins-append : (w : Word) (rest : List ℕ) → IsWord w → BeginsWith (spelling w ++ rest) w
begins-append w rest h = record { word = h; spelled = take_at (spelling w) rest (length (spelling w)) refl }

abbrev found : List ℕ → Word → Bool
found s f = is_word f && starts_with nat_eq s (spelling f)

word_at-is : (s : List ℕ) → word_at s ≡ cond (found s (fields_of s)) (Some (fields_of s)) None
unfolding word_at
word_at-is s = refl

pub word_at-begins : (s : List ℕ) (w : Word) → BeginsWith s w → word_at s ≡ Some w
word_at-begins s w h =
    let f : fields_of s ≡ w = ap fields_of (split-begins s w h) ∙ fields-spelling w (drop (length (spelling w)) s) h.word in
    let t : found s w ≡ true = and_from (is_word w) (starts_with nat_eq s (spelling w)) (test-from_IsWord w h.word) (starts-from_StartsWith s (spelling w) h.spelled) in
    word_at-is s ∙ (ap (λ z. cond (found s z) (Some z) None) f ∙ cond-true (found s w) (Some w) None t)

some-when : (t : Bool) (f w : Word) → cond t (Some f) None ≡ Some w → (t ≡ true) × (f ≡ w)
some-when true f w e = (refl, cc)
some-when false f w e = absurd (cc)

pub begins-word_at : (s : List ℕ) (w : Word) → word_at s ≡ Some w → BeginsWith s w
begins-word_at s w h =
    let p = some-when (found s (fields_of s)) (fields_of s) w (sym (word_at-is s) ∙ h) in
    let q = and_parts (is_word (fields_of s)) (starts_with nat_eq s (spelling (fields_of s))) p.0 in
    subst (BeginsWith s) p.1 (record { word = IsWord-from_test (fields_of s) q.0; spelled = StartsWith-from_starts s (spelling (fields_of s)) q.1 })

pub begins_unique : (s : List ℕ) (v w : Word) → BeginsWith s v → BeginsWith s w → v ≡ w
begins_unique s v w hv hw = let a = word_at-begins s v hv in let b = word_at-begins s w hw in cc

pub no_word-begins : (s : List ℕ) (w : Word) → word_at s ≡ None → ¬ BeginsWith s w
no_word-begins s w e h = let a = word_at-begins s w h in cc

none-from-option : (o : Option Word) → ((w : Word) → o ≡ Some w → ⊥) → o ≡ None
none-from-option None h = refl
none-from-option (Some w) h = absurd (h w refl)

pub no_word-from : (s : List ℕ) → ((w : Word) → ¬ BeginsWith s w) → word_at s ≡ None
no_word-from s h = none-from-option (word_at s) (λ w e. h w (begins-word_at s w e))
