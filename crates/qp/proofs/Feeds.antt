-- The first LF of a text.
use Rattle.std.proofs.Common.{◌≡◌, ℕ, ◌+◌, ◌<◌, ◌≤◌, true, false, eqb, List, ◌∷◌, ◌++◌, length, get_or, take, drop, ap, sym, ◌∙◌, arith}
use Rattle.std.specs.List.{All}
use Rattle.std.proofs.lemmas.Bool.{eqb-true, false_from_ne_true}
use Rattle.std.proofs.lemmas.List.{take-append-drop, length-take, get_or-take, drop_more}
use Rattle.std.proofs.lemmas.List.Elements.{All-from_get_or}

pub no_feed : (text : List ℕ) → ((k : ℕ) → 0 ≤ k → k < length text → ¬ (eqb (get_or text k 0) 10 ≡ true)) → All (λ b. eqb b 10 ≡ false) text
no_feed text none = All-from_get_or (λ b. eqb b 10 ≡ false) text 0 (λ k within. false_from_ne_true (eqb (get_or text k 0) 10) (none k (omega arith) within))

pub no_feed_before : (text : List ℕ) (end : ℕ) → ((k : ℕ) → 0 ≤ k → k < end → ¬ (eqb (get_or text k 0) 10 ≡ true)) → All (λ b. eqb b 10 ≡ false) (take end text)
no_feed_before text end none = All-from_get_or (λ b. eqb b 10 ≡ false) (take end text) 0 (λ k within.
    let below : k < end = omega (arith, length-take end text) in
    rw (get_or-take end text k 0 below) (false_from_ne_true (eqb (get_or text k 0) 10) (none k (omega arith) below)))

pub feed_at : (text : List ℕ) (end : ℕ) → end < length text → eqb (get_or text end 0) 10 ≡ true → text ≡ take end text ++ 10 ∷ drop (end + 1) text
feed_at text end within is =
    sym (take-append-drop end text)
    ∙ ap (λ t. take end text ++ t) (drop_more text end 0 within ∙ ap (λ b. b ∷ drop (end + 1) text) (eqb-true (get_or text end 0) 10 is))
