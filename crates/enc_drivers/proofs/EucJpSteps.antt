-- What the front of bytes tells of the unit in EUC-JP.
use Rattle.std.proofs.Common.{◌≡◌, ℕ, ◌<◌, ◌≤◌, true, false, lt-ltb, le-ltb, leb-true, List, [], ◌∷◌, ◌++◌, length, get_or, refl, ap, ◌∙◌, arith}
use Rattle.std.specs.Prelude.{◌==◌, ◌&&◌, nat_le, None, Some}
use Rattle.std.proofs.lemmas.Bool.{and_parts, ne_eqb}
use Rattle.std.proofs.Math.Bool.{and-false}
use Rattle.enc_drivers.specs.declared.unit.Mode.{Mode}
use Rattle.enc_drivers.specs.Units.{scalar_at, malformed_at}
use Rattle.enc_drivers.specs.Lookup.{Places}
use Rattle.enc_drivers.specs.Steps.{IsUndecided}
use Rattle.enc_drivers.specs.Codes.Sequence.{sequence_unit}
use Rattle.enc_drivers.specs.Codes.EucJp.{in_row, is_euc_jp_lead, row_scalar, euc_jp_scalar, jis0212_unit, euc_jp_sequence, euc_jp_unit}
use Rattle.enc_drivers.proofs.Fronts.{front_of_one, front_of_two, front_of_three, only_one, only_two, one_byte, undecided_by}

-- a lead at a front
pub record BeginsSequence (front : List ℕ) : Type 0 where
  pub some : 1 ≤ length front
  pub high : 0x80 ≤ get_or front 0 0
  pub lead : is_euc_jp_lead (get_or front 0 0) ≡ true

-- the unit of the first bytes
of_ascii : (p q : Places) (mode : Mode) (a : ℕ) (rest : List ℕ) → a < 0x80 → euc_jp_unit p q mode (a ∷ rest) ≡ scalar_at mode a 1
unfolding euc_jp_unit
of_ascii p q mode a rest low = rw (lt-ltb a 0x80 low) refl

of_no_lead : (p q : Places) (mode : Mode) (a : ℕ) (rest : List ℕ) → 0x80 ≤ a → is_euc_jp_lead a ≡ false → euc_jp_unit p q mode (a ∷ rest) ≡ malformed_at mode 1
unfolding euc_jp_unit
of_no_lead p q mode a rest high e = rw (le-ltb a 0x80 high, e) refl

of_lead : (p q : Places) (mode : Mode) (a : ℕ) (rest : List ℕ) → 0x80 ≤ a → is_euc_jp_lead a ≡ true → euc_jp_unit p q mode (a ∷ rest) ≡ euc_jp_sequence p q mode a rest
unfolding euc_jp_unit
of_lead p q mode a rest high e = rw (le-ltb a 0x80 high, e) refl

of_cut_lead : (p q : Places) (mode : Mode) (a : ℕ) → 0x80 ≤ a → is_euc_jp_lead a ≡ true → euc_jp_unit p q mode (a ∷ []) ≡ malformed_at mode 1
unfolding euc_jp_sequence
of_cut_lead p q mode a high e = of_lead p q mode a [] high e

of_two : (p q : Places) (mode : Mode) (a b : ℕ) (rest : List ℕ) → 0x80 ≤ a → is_euc_jp_lead a ≡ true → (a == 0x8F && in_row b) ≡ false
    → euc_jp_unit p q mode (a ∷ b ∷ rest) ≡ sequence_unit mode (euc_jp_scalar p a b) 2 b
unfolding euc_jp_sequence
of_two p q mode a b rest high e f = of_lead p q mode a (b ∷ rest) high e ∙ rw f refl

of_cut_8f : (p q : Places) (mode : Mode) (a b : ℕ) → 0x80 ≤ a → is_euc_jp_lead a ≡ true → (a == 0x8F && in_row b) ≡ true → euc_jp_unit p q mode (a ∷ b ∷ []) ≡ malformed_at mode 2
unfolding euc_jp_sequence jis0212_unit
of_cut_8f p q mode a b high e f = of_lead p q mode a (b ∷ []) high e ∙ rw f refl

of_three : (p q : Places) (mode : Mode) (a b c : ℕ) (rest : List ℕ) → 0x80 ≤ a → is_euc_jp_lead a ≡ true → (a == 0x8F && in_row b) ≡ true
    → euc_jp_unit p q mode (a ∷ b ∷ c ∷ rest) ≡ sequence_unit mode (row_scalar q b c) 3 c
unfolding euc_jp_sequence jis0212_unit
of_three p q mode a b c rest high e f = of_lead p q mode a (b ∷ c ∷ rest) high e ∙ rw f refl

-- 80 stands second or third in no sequence
no_second : (p : Places) (a : ℕ) → euc_jp_scalar p a 0x80 ≡ None
unfolding euc_jp_scalar row_scalar
no_second p a = rw (and-false (a == 0x8E), and-false (in_row a)) refl

no_third : (q : Places) (b : ℕ) → row_scalar q b 0x80 ≡ None
unfolding row_scalar
no_third q b = rw (and-false (in_row b)) refl

bad_second : (p q : Places) (mode : Mode) (a : ℕ) → 0x80 ≤ a → is_euc_jp_lead a ≡ true → euc_jp_unit p q mode (a ∷ 0x80 ∷ []) ≡ malformed_at mode 2
bad_second p q mode a high e = of_two p q mode a 0x80 [] high e (and-false (a == 0x8F)) ∙ ap (λ o. sequence_unit mode o 2 0x80) (no_second p a)

bad_third : (p q : Places) (mode : Mode) (a b : ℕ) → 0x80 ≤ a → is_euc_jp_lead a ≡ true → (a == 0x8F && in_row b) ≡ true → euc_jp_unit p q mode (a ∷ b ∷ 0x80 ∷ []) ≡ malformed_at mode 3
bad_third p q mode a b high e f = of_three p q mode a b 0x80 [] high e f ∙ ap (λ o. sequence_unit mode o 3 0x80) (no_third q b)

-- the same of a front
pub ascii_front : (p q : Places) (mode : Mode) (front more : List ℕ) → 1 ≤ length front → get_or front 0 0 < 0x80 → euc_jp_unit p q mode (front ++ more) ≡ scalar_at mode (get_or front 0 0) 1
ascii_front p q mode front more h low = ap (euc_jp_unit p q mode) (front_of_one front more h) ∙ of_ascii p q mode _ _ low

pub no_lead_front : (p q : Places) (mode : Mode) (front more : List ℕ) → 1 ≤ length front → 0x80 ≤ get_or front 0 0 → is_euc_jp_lead (get_or front 0 0) ≡ false
    → euc_jp_unit p q mode (front ++ more) ≡ malformed_at mode 1
no_lead_front p q mode front more h high e = ap (euc_jp_unit p q mode) (front_of_one front more h) ∙ of_no_lead p q mode _ _ high e

pub lead_at_end : (p q : Places) (mode : Mode) (front : List ℕ) → BeginsSequence front → length front < 2 → euc_jp_unit p q mode front ≡ malformed_at mode 1
lead_at_end p q mode front is l = ap (euc_jp_unit p q mode) (only_one front is.some l) ∙ of_cut_lead p q mode _ is.high is.lead

pub lead_undecided : (p q : Places) (mode : Mode) (front : List ℕ) → BeginsSequence front → length front < 2 → IsUndecided (euc_jp_unit p q) mode front
lead_undecided p q mode front is l =
    undecided_by (euc_jp_unit p q) mode front (0x80 ∷ []) 1 2 (one_byte 0x80 (omega arith))
    (ap (λ u. u.len) (lead_at_end p q mode front is l))
    (ap (λ rest. (euc_jp_unit p q mode (rest ++ (0x80 ∷ []))).len) (only_one front is.some l) ∙ ap (λ u. u.len) (bad_second p q mode _ is.high is.lead))
    (λ same. omega arith)

pub two_front : (p q : Places) (mode : Mode) (front more : List ℕ) → BeginsSequence front → 2 ≤ length front → (get_or front 0 0 == 0x8F && in_row (get_or front 1 0)) ≡ false
    → euc_jp_unit p q mode (front ++ more) ≡ sequence_unit mode (euc_jp_scalar p (get_or front 0 0) (get_or front 1 0)) 2 (get_or front 1 0)
two_front p q mode front more is h f = ap (euc_jp_unit p q mode) (front_of_two front more h) ∙ of_two p q mode _ _ _ is.high is.lead f

pub second_at_end : (p q : Places) (mode : Mode) (front : List ℕ) → BeginsSequence front → 2 ≤ length front → length front < 3
    → (get_or front 0 0 == 0x8F && in_row (get_or front 1 0)) ≡ true → euc_jp_unit p q mode front ≡ malformed_at mode 2
second_at_end p q mode front is h l f = ap (euc_jp_unit p q mode) (only_two front h l) ∙ of_cut_8f p q mode _ _ is.high is.lead f

pub second_undecided : (p q : Places) (mode : Mode) (front : List ℕ) → BeginsSequence front → 2 ≤ length front → length front < 3
    → (get_or front 0 0 == 0x8F && in_row (get_or front 1 0)) ≡ true → IsUndecided (euc_jp_unit p q) mode front
second_undecided p q mode front is h l f =
    undecided_by (euc_jp_unit p q) mode front (0x80 ∷ []) 2 3 (one_byte 0x80 (omega arith))
    (ap (λ u. u.len) (second_at_end p q mode front is h l f))
    (ap (λ rest. (euc_jp_unit p q mode (rest ++ (0x80 ∷ []))).len) (only_two front h l) ∙ ap (λ u. u.len) (bad_third p q mode _ _ is.high is.lead f))
    (λ same. omega arith)

pub three_front : (p q : Places) (mode : Mode) (front more : List ℕ) → BeginsSequence front → 3 ≤ length front → (get_or front 0 0 == 0x8F && in_row (get_or front 1 0)) ≡ true
    → euc_jp_unit p q mode (front ++ more) ≡ sequence_unit mode (row_scalar q (get_or front 1 0) (get_or front 2 0)) 3 (get_or front 2 0)
three_front p q mode front more is h f = ap (euc_jp_unit p q mode) (front_of_three front more h) ∙ of_three p q mode _ _ _ _ is.high is.lead f

-- two bytes of a row with a scalar in jis0208
pub row_reads : (p q : Places) (a b code : ℕ) → in_row a ≡ true → row_scalar p a b ≡ Some code → (mode : Mode) (rest : List ℕ) → euc_jp_unit p q mode (a ∷ b ∷ rest) ≡ scalar_at mode code 2
unfolding euc_jp_scalar
row_reads p q a b code row e mode rest =
    let high : 0xA1 ≤ a = leb-true 0xA1 a (and_parts (nat_le 0xA1 a) (nat_le a 0xFE) row).0 in
    let no_8e : (a == 0x8E) ≡ false = ne_eqb a 0x8E (λ is. omega arith) in
    let no_8f : (a == 0x8F) ≡ false = ne_eqb a 0x8F (λ is. omega arith) in
    let lead : is_euc_jp_lead a ≡ true = rw (no_8e, no_8f) row in
    let two : (a == 0x8F && in_row b) ≡ false = rw no_8f refl in
    let scalar : euc_jp_scalar p a b ≡ Some code = rw no_8e e in
    of_two p q mode a b rest (omega arith) lead two ∙ ap (λ o. sequence_unit mode o 2 b) scalar
