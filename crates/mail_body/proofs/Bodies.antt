-- Bodies, a byte or four letters at a time.
use Rattle.std.proofs.Common.{◌≡◌, ℕ, ◌+◌, ◌*◌, ◌/◌, ◌%◌, Bool, true, false, cond, not, ◌==◌, List, [], ◌∷◌, ◌++◌, map, filter, refl, ap, sym, ◌∙◌}
use Rattle.std.specs.List.{before_first}
use Rattle.std.proofs.lemmas.List.Sums.{take_while-cons}
use Rattle.std.proofs.lemmas.Bool.{eqb-true, false≢true}
use Rattle.mail_body.specs.Base64.{octets_of, body_letters, base64_body}
use Rattle.words.specs.Base64.{is_letter, letter_value}

-- the letters of a body from its first byte on
pub letters-cons : (b : ℕ) (x : List ℕ) → body_letters (b ∷ x) ≡ cond (b == 61) [] (cond (is_letter b) (b ∷ body_letters x) (body_letters x))
unfolding body_letters
letters-cons b x =
    ap (filter is_letter) (take_while-cons (λ c. not (c == 61)) b x)
    ∙ elim (b == 61) as (λ v. filter is_letter (cond (not v) (b ∷ before_first (λ c. c == 61) x) []) ≡ cond v [] (cond (is_letter b) (b ∷ filter is_letter (before_first (λ c. c == 61) x)) (filter is_letter (before_first (λ c. c == 61) x)))) [
      | true ↦ refl
      | false ↦ refl
    ]

-- no letter is `=`
pub letter-apart : (b : ℕ) → is_letter b ≡ true → (b == 61) ≡ false
letter-apart b h = by_test (b == 61) refl
  where
    by_test : (t : Bool) → (b == 61) ≡ t → (b == 61) ≡ false
    by_test true e = absurd (false≢true (sym (ap is_letter (eqb-true b 61 e)) ∙ h))
    by_test false e = e

pub letters-letter : (b : ℕ) (x : List ℕ) → is_letter b ≡ true → body_letters (b ∷ x) ≡ b ∷ body_letters x
letters-letter b x h = letters-cons b x ∙ rw (letter-apart b h, h) refl

pub letters-end : (x : List ℕ) → body_letters (61 ∷ x) ≡ []
letters-end x = letters-cons 61 x

pub letters-nil : body_letters [] ≡ []
unfolding body_letters
letters-nil = refl

pub letters-other : (b : ℕ) (x : List ℕ) → (b == 61) ≡ false → is_letter b ≡ false → body_letters (b ∷ x) ≡ body_letters x
letters-other b x apart h = letters-cons b x ∙ rw (apart, h) refl

-- nothing counts from the first `=` on, whatever stands before it
letters-ends : (p x : List ℕ) → body_letters (p ++ 61 ∷ x) ≡ body_letters p
letters-ends [] x = letters-end x ∙ sym letters-nil
letters-ends (b ∷ p) x = letters-cons b (p ++ 61 ∷ x) ∙ ap (λ ls. cond (b == 61) [] (cond (is_letter b) (b ∷ ls) ls)) (letters-ends p x) ∙ sym (letters-cons b p)

-- another byte changes nothing, wherever it stands
letters-ignores : (p : List ℕ) (b : ℕ) (x : List ℕ) → (b == 61) ≡ false → is_letter b ≡ false → body_letters (p ++ b ∷ x) ≡ body_letters (p ++ x)
letters-ignores [] b x apart h = letters-other b x apart h
letters-ignores (c ∷ p) b x apart h = letters-cons c (p ++ b ∷ x) ∙ ap (λ ls. cond (c == 61) [] (cond (is_letter c) (c ∷ ls) ls)) (letters-ignores p b x apart h) ∙ sym (letters-cons c (p ++ x))

pub body-ends : (p x : List ℕ) → base64_body (p ++ 61 ∷ x) ≡ base64_body p
unfolding base64_body
body-ends p x = ap (λ ls. octets_of (map letter_value ls)) (letters-ends p x)

pub body-ignores : (p : List ℕ) (b : ℕ) (x : List ℕ) → (b == 61) ≡ false → is_letter b ≡ false → base64_body (p ++ b ∷ x) ≡ base64_body (p ++ x)
unfolding base64_body
body-ignores p b x apart h = ap (λ ls. octets_of (map letter_value ls)) (letters-ignores p b x apart h)

-- the octets of up to three letters and nothing else
pub body-none : base64_body [] ≡ []
unfolding base64_body octets_of
body-none = ap (λ ls. octets_of (map letter_value ls)) letters-nil

pub body-one : (a : ℕ) → is_letter a ≡ true → base64_body (a ∷ []) ≡ []
unfolding base64_body octets_of
body-one a ha = ap (λ ls. octets_of (map letter_value ls)) (letters-letter a [] ha ∙ ap (λ ls. a ∷ ls) letters-nil)

pub body-two : (a b : ℕ) → is_letter a ≡ true → is_letter b ≡ true → base64_body (a ∷ b ∷ []) ≡ (letter_value a * 4 + letter_value b / 16) ∷ []
unfolding base64_body octets_of
body-two a b ha hb = ap (λ ls. octets_of (map letter_value ls)) (letters-letter a (b ∷ []) ha ∙ ap (λ ls. a ∷ ls) (letters-letter b [] hb ∙ ap (λ ls. b ∷ ls) letters-nil))

pub body-three : (a b c : ℕ) → is_letter a ≡ true → is_letter b ≡ true → is_letter c ≡ true
    → base64_body (a ∷ b ∷ c ∷ []) ≡ (letter_value a * 4 + letter_value b / 16) ∷ (letter_value b % 16 * 16 + letter_value c / 4) ∷ []
unfolding base64_body octets_of
body-three a b c ha hb hc =
    ap (λ ls. octets_of (map letter_value ls))
    (letters-letter a (b ∷ c ∷ []) ha ∙ ap (λ ls. a ∷ ls) (letters-letter b (c ∷ []) hb ∙ ap (λ ls. b ∷ ls) (letters-letter c [] hc ∙ ap (λ ls. c ∷ ls) letters-nil)))

-- four letters, and then anything
pub body-four : (a b c d : ℕ) (x : List ℕ) → is_letter a ≡ true → is_letter b ≡ true → is_letter c ≡ true → is_letter d ≡ true
    → base64_body (a ∷ b ∷ c ∷ d ∷ x)
    ≡ (letter_value a * 4 + letter_value b / 16) ∷ (letter_value b % 16 * 16 + letter_value c / 4) ∷ (letter_value c % 4 * 64 + letter_value d) ∷ base64_body x
unfolding base64_body octets_of
body-four a b c d x ha hb hc hd =
    ap (λ ls. octets_of (map letter_value ls))
    (letters-letter a (b ∷ c ∷ d ∷ x) ha
    ∙ ap (λ ls. a ∷ ls) (letters-letter b (c ∷ d ∷ x) hb
    ∙ ap (λ ls. b ∷ ls) (letters-letter c (d ∷ x) hc
    ∙ ap (λ ls. c ∷ ls) (letters-letter d x hd))))
