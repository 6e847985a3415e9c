-- What the front of bytes tells of the unit in UTF-16.
use Rattle.std.proofs.Common.{◌≡◌, ℕ, ◌<◌, ◌≤◌, Bool, true, false, List, [], ◌∷◌, ◌++◌, length, get_or, refl, ap, sym, ◌∙◌, arith, inl, inr, ⊎_elim}
use Rattle.std.specs.Prelude.{◌⊎◌}
use Rattle.std.proofs.lemmas.List.Elements.{All-nil, All-cons}
use Rattle.enc_handles.specs.Utf16.{code_unit, is_lead, is_trail, pair_scalar}
use Rattle.enc_drivers.specs.declared.unit.Mode.{Mode}
use Rattle.enc_drivers.specs.Units.{scalar_at, malformed_at, AreBytes}
use Rattle.enc_drivers.specs.Steps.{IsUndecided}
use Rattle.enc_drivers.specs.Codes.Utf16.{single_unit, utf16_unit}

-- a code unit that is no lead
single_whole : (big : Bool) (mode : Mode) (a b : ℕ) (rest : List ℕ) → is_lead (code_unit big a b) ≡ false → utf16_unit big mode (a ∷ b ∷ rest) ≡ single_unit mode (code_unit big a b)
unfolding utf16_unit
single_whole big mode a b [] k = rw k refl
single_whole big mode a b (c ∷ []) k = rw k refl
single_whole big mode a b (c ∷ d ∷ rest) k = rw k refl

pub single_front : (big : Bool) (mode : Mode) (front more : List ℕ) (u : ℕ) → 2 ≤ length front → u ≡ code_unit big (get_or front 0 0) (get_or front 1 0) → is_lead u ≡ false
    → utf16_unit big mode (front ++ more) ≡ single_unit mode u
single_front big mode [] more u h is k = absurd (omega arith)
single_front big mode (a ∷ []) more u h is k = absurd (omega arith)
single_front big mode (a ∷ b ∷ front) more u h is k =
    single_whole big mode a b (front ++ more) (ap is_lead (sym is) ∙ k) ∙ ap (λ v. single_unit mode v) (sym is)

-- a lead and the code unit behind it
pub pair_front : (big : Bool) (mode : Mode) (front more : List ℕ) (u v : ℕ) → 4 ≤ length front → u ≡ code_unit big (get_or front 0 0) (get_or front 1 0) → v ≡ code_unit big (get_or front 2 0) (get_or front 3 0)
    → is_lead u ≡ true → is_trail v ≡ true → utf16_unit big mode (front ++ more) ≡ scalar_at mode (pair_scalar u v) 4
unfolding utf16_unit
pair_front big mode [] more u v h is_u is_v k t = absurd (omega arith)
pair_front big mode (a ∷ []) more u v h is_u is_v k t = absurd (omega arith)
pair_front big mode (a ∷ b ∷ []) more u v h is_u is_v k t = absurd (omega arith)
pair_front big mode (a ∷ b ∷ c ∷ []) more u v h is_u is_v k t = absurd (omega arith)
pair_front big mode (a ∷ b ∷ c ∷ d ∷ front) more u v h is_u is_v k t = rw (← is_u, ← is_v, k, t) refl

pub lead_front : (big : Bool) (mode : Mode) (front more : List ℕ) (u v : ℕ) → 4 ≤ length front → u ≡ code_unit big (get_or front 0 0) (get_or front 1 0) → v ≡ code_unit big (get_or front 2 0) (get_or front 3 0)
    → is_lead u ≡ true → is_trail v ≡ false → utf16_unit big mode (front ++ more) ≡ malformed_at mode 2
unfolding utf16_unit
lead_front big mode [] more u v h is_u is_v k t = absurd (omega arith)
lead_front big mode (a ∷ []) more u v h is_u is_v k t = absurd (omega arith)
lead_front big mode (a ∷ b ∷ []) more u v h is_u is_v k t = absurd (omega arith)
lead_front big mode (a ∷ b ∷ c ∷ []) more u v h is_u is_v k t = absurd (omega arith)
lead_front big mode (a ∷ b ∷ c ∷ d ∷ front) more u v h is_u is_v k t = rw (← is_u, ← is_v, k, t) refl

-- how long a unit of a few bytes is
one_long : (big : Bool) (mode : Mode) (a : ℕ) → utf16_unit big mode (a ∷ []) ≡ malformed_at mode 1
unfolding utf16_unit
one_long big mode a = refl

two_long : (big : Bool) (mode : Mode) (a b : ℕ) → (utf16_unit big mode (a ∷ b ∷ [])).len ≡ 2
unfolding utf16_unit
two_long big mode a b = by_tests (is_lead (code_unit big a b)) refl (is_trail (code_unit big a b)) refl
  where
    by_tests : (s : Bool) → is_lead (code_unit big a b) ≡ s → (t : Bool) → is_trail (code_unit big a b) ≡ t → (utf16_unit big mode (a ∷ b ∷ [])).len ≡ 2
    by_tests true e t f = rw e refl
    by_tests false e true f = rw (e, f) refl
    by_tests false e false f = rw (e, f) refl

lead_of_two : (big : Bool) (mode : Mode) (a b : ℕ) → is_lead (code_unit big a b) ≡ true → utf16_unit big mode (a ∷ b ∷ []) ≡ malformed_at mode 2
unfolding utf16_unit
lead_of_two big mode a b k = rw k refl

lead_of_three : (big : Bool) (mode : Mode) (a b c : ℕ) → is_lead (code_unit big a b) ≡ true → utf16_unit big mode (a ∷ b ∷ c ∷ []) ≡ malformed_at mode 3
unfolding utf16_unit
lead_of_three big mode a b c k = rw k refl

four_long : (big : Bool) (mode : Mode) (a b c d : ℕ) → is_lead (code_unit big a b) ≡ true → ((utf16_unit big mode (a ∷ b ∷ c ∷ d ∷ [])).len ≡ 4) ⊎ ((utf16_unit big mode (a ∷ b ∷ c ∷ d ∷ [])).len ≡ 2)
unfolding utf16_unit
four_long big mode a b c d k = by_test (is_trail (code_unit big c d)) refl
  where
    by_test : (t : Bool) → is_trail (code_unit big c d) ≡ t → ((utf16_unit big mode (a ∷ b ∷ c ∷ d ∷ [])).len ≡ 4) ⊎ ((utf16_unit big mode (a ∷ b ∷ c ∷ d ∷ [])).len ≡ 2)
    by_test true e = inl (rw (k, e) refl)
    by_test false e = inr (rw (k, e) refl)

-- a zero byte behind the front
zero_byte : AreBytes (0 ∷ [])
zero_byte = All-cons (λ b. b < 256) 0 [] (omega arith) (All-nil (λ b. b < 256))

none : AreBytes []
none = All-nil (λ b. b < 256)

-- one byte, and a lead with no whole code unit behind it: what the end would make of them, a further byte changes
pub one_at_end : (big : Bool) (mode : Mode) (front : List ℕ) → 0 < length front → length front < 2 → utf16_unit big mode front ≡ malformed_at mode 1
one_at_end big mode [] h l = absurd (omega arith)
one_at_end big mode (a ∷ []) h l = one_long big mode a
one_at_end big mode (a ∷ b ∷ front) h l = absurd (omega arith)

pub one_undecided : (big : Bool) (mode : Mode) (front : List ℕ) → 0 < length front → length front < 2 → IsUndecided (utf16_unit big) mode front
one_undecided big mode [] h l = absurd (omega arith)
one_undecided big mode (a ∷ []) h l = record {
  one = [];
  other = 0 ∷ [];
  one_bytes = none;
  other_bytes = zero_byte;
  differ = λ e. let lens : 1 ≡ 2 = ap (λ u. u.len) (sym (one_long big mode a)) ∙ (ap (λ u. u.len) e ∙ two_long big mode a 0) in absurd (omega arith);
}
one_undecided big mode (a ∷ b ∷ front) h l = absurd (omega arith)

pub lead_at_end : (big : Bool) (mode : Mode) (front : List ℕ) (u : ℕ) → 2 ≤ length front → length front < 4 → u ≡ code_unit big (get_or front 0 0) (get_or front 1 0) → is_lead u ≡ true
    → utf16_unit big mode front ≡ malformed_at mode (length front)
lead_at_end big mode [] u h l is k = absurd (omega arith)
lead_at_end big mode (a ∷ []) u h l is k = absurd (omega arith)
lead_at_end big mode (a ∷ b ∷ []) u h l is k = lead_of_two big mode a b (ap is_lead (sym is) ∙ k)
lead_at_end big mode (a ∷ b ∷ c ∷ []) u h l is k = lead_of_three big mode a b c (ap is_lead (sym is) ∙ k)
lead_at_end big mode (a ∷ b ∷ c ∷ d ∷ front) u h l is k = absurd (omega arith)

pub lead_undecided : (big : Bool) (mode : Mode) (front : List ℕ) (u : ℕ) → 2 ≤ length front → length front < 4 → u ≡ code_unit big (get_or front 0 0) (get_or front 1 0) → is_lead u ≡ true
    → IsUndecided (utf16_unit big) mode front
lead_undecided big mode [] u h l is k = absurd (omega arith)
lead_undecided big mode (a ∷ []) u h l is k = absurd (omega arith)
lead_undecided big mode (a ∷ b ∷ []) u h l is k =
    let lead = ap is_lead (sym is) ∙ k in
    record {
      one = [];
      other = 0 ∷ [];
      one_bytes = none;
      other_bytes = zero_byte;
      differ = λ e. let lens : 2 ≡ 3 = ap (λ u. u.len) (sym (lead_of_two big mode a b lead)) ∙ (ap (λ u. u.len) e ∙ ap (λ u. u.len) (lead_of_three big mode a b 0 lead)) in absurd (omega arith);
    }
lead_undecided big mode (a ∷ b ∷ c ∷ []) u h l is k =
    let lead = ap is_lead (sym is) ∙ k in
    record {
      one = [];
      other = 0 ∷ [];
      one_bytes = none;
      other_bytes = zero_byte;
      differ = λ e.
          let three : (utf16_unit big mode (a ∷ b ∷ c ∷ 0 ∷ [])).len ≡ 3 = ap (λ u. u.len) (sym e) ∙ ap (λ u. u.len) (lead_of_three big mode a b c lead) in
          ⊎_elim (λ four. absurd (omega arith)) (λ two. absurd (omega arith)) (four_long big mode a b c 0 lead);
    }
lead_undecided big mode (a ∷ b ∷ c ∷ d ∷ front) u h l is k = absurd (omega arith)
