-- The octets of Q texts, from left to right.
use Rattle.std.proofs.Common.{◌≡◌, ℕ, Bool, true, false, ◌==◌, ◌&&◌, ◌||◌, cond, Some, None, List, [], ◌∷◌, ◌++◌, drop, refl, ap, ◌∙◌}
use Rattle.std.specs.Char.{is_digit}
use Rattle.std.proofs.lemmas.Bool.{cond-true, cond-false}
use Rattle.people.specs.QText.{q_octet, is_escape, hex_octet, q_octets, two_digits}
use Rattle.people.proofs.Bytes.{HasNone}

-- a byte that begins no escape
pub q-plain : (b : ℕ) (more : List ℕ) → (b == 61) ≡ false → q_octets (b ∷ more) ≡ q_octet b ∷ q_octets more
unfolding q_octets
q-plain b [] e = refl
q-plain b (u ∷ []) e = refl
q-plain b (u ∷ v ∷ rest) e =
    cond-false (is_escape b u v) (hex_octet u v ∷ q_octets rest) (q_octet b ∷ q_octets (u ∷ v ∷ rest)) (ap (λ t. t && (is_digit u 16 && is_digit v 16)) e)

-- an underscore, and another byte
pub q-underscore : (more : List ℕ) → q_octets (95 ∷ more) ≡ 32 ∷ q_octets more
q-underscore more = q-plain 95 more refl

pub q-literal : (b : ℕ) (more : List ℕ) → (b == 61) ≡ false → (b == 95) ≡ false → q_octets (b ∷ more) ≡ b ∷ q_octets more
q-literal b more e f = q-plain b more e ∙ ap (λ z. z ∷ q_octets more) (cond-false (b == 95) 32 b f)

-- an `=` with two digits, and one without them
pub q-escape : (behind : List ℕ) (octet : ℕ) → two_digits behind ≡ Some octet → q_octets (61 ∷ behind) ≡ octet ∷ q_octets (drop 2 behind)
unfolding q_octets
q-escape [] octet e = absurd (cc)
q-escape (u ∷ []) octet e = absurd (cc)
q-escape (u ∷ v ∷ rest) octet e = by_test (is_digit u 16 && is_digit v 16) refl e
  where
    by_test : (t : Bool) → (is_digit u 16 && is_digit v 16) ≡ t → cond t (Some (hex_octet u v)) None ≡ Some octet → q_octets (61 ∷ u ∷ v ∷ rest) ≡ octet ∷ q_octets rest
    by_test true t q = cond-true (is_escape 61 u v) (hex_octet u v ∷ q_octets rest) (61 ∷ q_octets (u ∷ v ∷ rest)) t ∙ ap (λ z. z ∷ q_octets rest) (cc)
    by_test false t q = absurd (cc)

pub q-no-escape : (behind : List ℕ) → two_digits behind ≡ None → q_octets (61 ∷ behind) ≡ 61 ∷ q_octets behind
unfolding q_octets
q-no-escape [] e = refl
q-no-escape (u ∷ []) e = refl
q-no-escape (u ∷ v ∷ rest) e = by_test (is_digit u 16 && is_digit v 16) refl e
  where
    by_test : (t : Bool) → (is_digit u 16 && is_digit v 16) ≡ t → cond t (Some (hex_octet u v)) None ≡ None → q_octets (61 ∷ u ∷ v ∷ rest) ≡ 61 ∷ q_octets (u ∷ v ∷ rest)
    by_test true t q = absurd (cc)
    by_test false t q = cond-false (is_escape 61 u v) (hex_octet u v ∷ q_octets rest) (61 ∷ q_octets (u ∷ v ∷ rest)) t

abbrev pub is_special : ℕ → Bool
is_special b = (b == 61) || (b == 95)

neither : (t u : Bool) → (t || u) ≡ false → (t ≡ false) × (u ≡ false)
neither true u e = absurd (cc)
neither false u e = (refl, e)

-- a run of bytes that stand for themselves
pub q-run : (run more : List ℕ) → HasNone is_special run → q_octets (run ++ more) ≡ run ++ q_octets more
q-run [] more h = refl
q-run (b ∷ run) more h =
    let n = neither (b == 61) (b == 95) h.0 in
    q-literal b (run ++ more) n.0 n.1 ∙ ap (λ z. b ∷ z) (q-run run more h.1)

pub q-end : (run : List ℕ) → HasNone is_special run → q_octets run ≡ run
unfolding q_octets
q-end [] h = refl
q-end (b ∷ run) h =
    let n = neither (b == 61) (b == 95) h.0 in
    q-literal b run n.0 n.1 ∙ ap (λ z. b ∷ z) (q-end run h.1)
