-- What is still to come, by what is held.
use Rattle.std.proofs.Common.{◌≡◌, ℕ, false, ◌==◌, List, [], ◌∷◌, refl}
use Rattle.words.specs.Base64.{is_letter}
use Rattle.mail_body.specs.HeldLetters.{base64_rest}
use Rattle.mail_body.specs.declared.letters.held.HeldLetters.{HeldLetters}
use Rattle.mail_body.specs.declared.letters.held.HeldLetters.TheVariants.{NoLetter, OneLetter, TwoLetters, ThreeLetters, Ended}
use Rattle.mail_body.proofs.Bodies.{body-ends, body-ignores}

-- `=` ends the body
pub rest-ends : (h : HeldLetters) (x : List ℕ) → base64_rest h (61 ∷ x) ≡ base64_rest h []
rest-ends NoLetter x = body-ends [] x
rest-ends (OneLetter a) x = body-ends (a.byte ∷ []) x
rest-ends (TwoLetters a b) x = body-ends (a.byte ∷ b.byte ∷ []) x
rest-ends (ThreeLetters a b c) x = body-ends (a.byte ∷ b.byte ∷ c.byte ∷ []) x
rest-ends Ended x = refl

-- other bytes change nothing
pub rest-ignores : (h : HeldLetters) (b : ℕ) (x : List ℕ) → (b == 61) ≡ false → is_letter b ≡ false → base64_rest h (b ∷ x) ≡ base64_rest h x
rest-ignores NoLetter b x apart other = body-ignores [] b x apart other
rest-ignores (OneLetter p) b x apart other = body-ignores (p.byte ∷ []) b x apart other
rest-ignores (TwoLetters p q) b x apart other = body-ignores (p.byte ∷ q.byte ∷ []) b x apart other
rest-ignores (ThreeLetters p q r) b x apart other = body-ignores (p.byte ∷ q.byte ∷ r.byte ∷ []) b x apart other
rest-ignores Ended b x apart other = refl
