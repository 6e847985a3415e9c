-- Lists cut at the first byte of a kind.
use Rattle.std.proofs.Common.{◌≡◌, ℕ, zero, suc, ◌+◌, ◌<◌, ◌≤◌, Bool, true, false, not, cond, List, [], ◌∷◌, ◌++◌, length, take, drop, slice_index, refl, sym, ap, ◌∙◌, arith}
use Rattle.std.specs.List.{position_or_len}
use Rattle.std.proofs.lemmas.Bool.{false_from_ne_true}
use Rattle.std.proofs.lemmas.List.{drop_more, take-append-drop}

-- no byte of a list is of the kind
abbrev pub HasNone : (ℕ → Bool) → List ℕ → Type 0
HasNone p [] = Unit {0}
HasNone p (b ∷ bs) = (p b ≡ false) × HasNone p bs

-- none is before the first
pub none-before : (p : ℕ → Bool) (s : List ℕ) (m : ℕ) → m ≤ length s → ((k : ℕ) → 0 ≤ k → k < m → ¬ (p (slice_index s k) ≡ true)) → HasNone p (take m s)
none-before p s zero l h = tt
none-before p [] (suc m) l h = absurd (omega arith)
none-before p (b ∷ s) (suc m) l h =
    (false_from_ne_true (p b) (λ e. h 0 (omega arith) (omega arith) e), none-before p s m (omega arith) (λ k lo hi. h (suc k) (omega arith) (omega arith)))

-- where there is no first, no byte is of the kind
pub none-at-all : (p : ℕ → Bool) (s : List ℕ) → ((k : ℕ) → 0 ≤ k → k < length s → ¬ (p (slice_index s k) ≡ true)) → HasNone p s
none-at-all p [] h = tt
none-at-all p (b ∷ s) h =
    (false_from_ne_true (p b) (λ e. h 0 (omega arith) (omega arith) e), none-at-all p s (λ k lo hi. h (suc k) (omega arith) (omega arith)))

-- a list cut at a place
pub cut-at : (s : List ℕ) (m : ℕ) → m < length s → s ≡ take m s ++ slice_index s m ∷ drop (m + 1) s
cut-at s m h = sym (take-append-drop m s) ∙ ap (λ z. take m s ++ z) (drop_more s m 0 h)

-- where the first byte of a kind stands, and where there is none
pub first-place : (p : ℕ → Bool) (s : List ℕ) (m : ℕ) → m < length s → ((k : ℕ) → 0 ≤ k → k < m → ¬ (p (slice_index s k) ≡ true)) → p (slice_index s m) ≡ true
    → position_or_len p s ≡ m
first-place p [] m l h e = absurd (omega arith)
first-place p (b ∷ s) zero l h e = ap (λ t. cond (not t) (1 + position_or_len p s) 0) e
first-place p (b ∷ s) (suc m) l h e =
    let other : p b ≡ false = false_from_ne_true (p b) (λ q. h 0 (omega arith) (omega arith) q) in
    let rest : position_or_len p s ≡ m = first-place p s m (omega arith) (λ k lo hi. h (suc k) (omega arith) (omega arith)) e in
    let more : 1 + position_or_len p s ≡ suc m = omega arith in
    ap (λ t. cond (not t) (1 + position_or_len p s) 0) other ∙ more

pub no-place : (p : ℕ → Bool) (s : List ℕ) → ((k : ℕ) → 0 ≤ k → k < length s → ¬ (p (slice_index s k) ≡ true)) → position_or_len p s ≡ length s
no-place p [] h = refl
no-place p (b ∷ s) h =
    let other : p b ≡ false = false_from_ne_true (p b) (λ q. h 0 (omega arith) (omega arith) q) in
    let rest : position_or_len p s ≡ length s = no-place p s (λ k lo hi. h (suc k) (omega arith) (omega arith)) in
    let more : 1 + position_or_len p s ≡ suc (length s) = omega arith in
    ap (λ t. cond (not t) (1 + position_or_len p s) 0) other ∙ more
