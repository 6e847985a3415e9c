-- What the front of bytes tells of the unit in gb18030.
use Rattle.std.proofs.Common.{◌≡◌, ℕ, ◌<◌, ◌≤◌, true, false, lt-ltb, le-ltb, leb-true, List, [], ◌∷◌, ◌++◌, length, get_or, refl, ap, ◌∙◌, arith}
use Rattle.std.specs.Prelude.{nat_le, Some}
use Rattle.std.proofs.lemmas.Bool.{and_parts, ne_eqb}
use Rattle.enc_drivers.specs.declared.unit.Mode.{Mode}
use Rattle.enc_drivers.specs.Units.{scalar_at, malformed_at}
use Rattle.enc_drivers.specs.Lookup.{Places}
use Rattle.enc_drivers.specs.Steps.{IsUndecided}
use Rattle.enc_drivers.specs.Codes.Sequence.{sequence_unit, whole_unit}
use Rattle.enc_drivers.specs.Codes.Gb18030.{is_gb18030_lead, is_gb18030_digit, gb18030_scalar, ranges_place, gb18030_fourth, gb18030_third, gb18030_sequence, gb18030_unit}
use Rattle.enc_drivers.proofs.Fronts.{front_of_one, front_of_two, front_of_three, front_of_four, only_one, only_two, only_three, one_byte, undecided_by}

-- the unit of the first bytes
of_ascii : (p q : Places) (mode : Mode) (a : ℕ) (rest : List ℕ) → a < 0x80 → gb18030_unit p q mode (a ∷ rest) ≡ scalar_at mode a 1
unfolding gb18030_unit
of_ascii p q mode a rest low = rw (lt-ltb a 0x80 low) refl

of_80 : (p q : Places) (mode : Mode) (a : ℕ) (rest : List ℕ) → a ≡ 0x80 → gb18030_unit p q mode (a ∷ rest) ≡ scalar_at mode 0x20AC 1
unfolding gb18030_unit
of_80 p q mode a rest e = rw e refl

of_no_lead : (p q : Places) (mode : Mode) (a : ℕ) (rest : List ℕ) → 0x81 ≤ a → is_gb18030_lead a ≡ false → gb18030_unit p q mode (a ∷ rest) ≡ malformed_at mode 1
unfolding gb18030_unit
of_no_lead p q mode a rest high e =
    let more : 0x80 ≤ a = omega arith in
    rw (le-ltb a 0x80 more, ne_eqb a 0x80 (λ is. omega arith), e) refl

of_lead : (p q : Places) (mode : Mode) (a : ℕ) (rest : List ℕ) → is_gb18030_lead a ≡ true → gb18030_unit p q mode (a ∷ rest) ≡ gb18030_sequence p q mode a rest
unfolding gb18030_unit
of_lead p q mode a rest e =
    let high : 0x81 ≤ a = leb-true 0x81 a (and_parts (nat_le 0x81 a) (nat_le a 0xFE) e).0 in
    let more : 0x80 ≤ a = omega arith in
    rw (le-ltb a 0x80 more, ne_eqb a 0x80 (λ is. omega arith), e) refl

-- a lead and a second byte
of_cut_lead : (p q : Places) (mode : Mode) (a : ℕ) → is_gb18030_lead a ≡ true → gb18030_unit p q mode (a ∷ []) ≡ malformed_at mode 1
unfolding gb18030_sequence
of_cut_lead p q mode a e = of_lead p q mode a [] e

of_two : (p q : Places) (mode : Mode) (a b : ℕ) (rest : List ℕ) → is_gb18030_lead a ≡ true → is_gb18030_digit b ≡ false → gb18030_unit p q mode (a ∷ b ∷ rest) ≡ sequence_unit mode (gb18030_scalar p a b) 2 b
unfolding gb18030_sequence
of_two p q mode a b rest e f = of_lead p q mode a (b ∷ rest) e ∙ rw f refl

of_digit : (p q : Places) (mode : Mode) (a b : ℕ) (rest : List ℕ) → is_gb18030_lead a ≡ true → is_gb18030_digit b ≡ true → gb18030_unit p q mode (a ∷ b ∷ rest) ≡ gb18030_third q mode a b rest
unfolding gb18030_sequence
of_digit p q mode a b rest e f = of_lead p q mode a (b ∷ rest) e ∙ rw f refl

-- a third byte
of_cut_digit : (p q : Places) (mode : Mode) (a b : ℕ) → is_gb18030_lead a ≡ true → is_gb18030_digit b ≡ true → gb18030_unit p q mode (a ∷ b ∷ []) ≡ malformed_at mode 2
unfolding gb18030_third
of_cut_digit p q mode a b e f = of_digit p q mode a b [] e f

of_no_third : (p q : Places) (mode : Mode) (a b c : ℕ) (rest : List ℕ) → is_gb18030_lead a ≡ true → is_gb18030_digit b ≡ true → is_gb18030_lead c ≡ false
    → gb18030_unit p q mode (a ∷ b ∷ c ∷ rest) ≡ malformed_at mode 1
unfolding gb18030_third
of_no_third p q mode a b c rest e f g = of_digit p q mode a b (c ∷ rest) e f ∙ rw g refl

of_third : (p q : Places) (mode : Mode) (a b c : ℕ) (rest : List ℕ) → is_gb18030_lead a ≡ true → is_gb18030_digit b ≡ true → is_gb18030_lead c ≡ true
    → gb18030_unit p q mode (a ∷ b ∷ c ∷ rest) ≡ gb18030_fourth q mode a b c rest
unfolding gb18030_third
of_third p q mode a b c rest e f g = of_digit p q mode a b (c ∷ rest) e f ∙ rw g refl

-- a fourth byte
of_cut_third : (p q : Places) (mode : Mode) (a b c : ℕ) → is_gb18030_lead a ≡ true → is_gb18030_digit b ≡ true → is_gb18030_lead c ≡ true
    → gb18030_unit p q mode (a ∷ b ∷ c ∷ []) ≡ malformed_at mode 3
unfolding gb18030_fourth
of_cut_third p q mode a b c e f g = of_third p q mode a b c [] e f g

of_no_fourth : (p q : Places) (mode : Mode) (a b c d : ℕ) (rest : List ℕ) → is_gb18030_lead a ≡ true → is_gb18030_digit b ≡ true → is_gb18030_lead c ≡ true → is_gb18030_digit d ≡ false
    → gb18030_unit p q mode (a ∷ b ∷ c ∷ d ∷ rest) ≡ malformed_at mode 1
unfolding gb18030_fourth
of_no_fourth p q mode a b c d rest e f g h = of_third p q mode a b c (d ∷ rest) e f g ∙ rw h refl

of_four : (p q : Places) (mode : Mode) (a b c d : ℕ) (rest : List ℕ) → is_gb18030_lead a ≡ true → is_gb18030_digit b ≡ true → is_gb18030_lead c ≡ true → is_gb18030_digit d ≡ true
    → gb18030_unit p q mode (a ∷ b ∷ c ∷ d ∷ rest) ≡ whole_unit mode (q (ranges_place a b c d)) 4
unfolding gb18030_fourth
of_four p q mode a b c d rest e f g h = of_third p q mode a b c (d ∷ rest) e f g ∙ rw h refl

-- FF stands second in no sequence
of_ff : (p q : Places) (mode : Mode) (a : ℕ) → is_gb18030_lead a ≡ true → gb18030_unit p q mode (a ∷ 0xFF ∷ []) ≡ malformed_at mode 2
unfolding gb18030_scalar
of_ff p q mode a e = of_two p q mode a 0xFF [] e refl

-- the same of a front
pub ascii_front : (p q : Places) (mode : Mode) (front more : List ℕ) → 1 ≤ length front → get_or front 0 0 < 0x80 → gb18030_unit p q mode (front ++ more) ≡ scalar_at mode (get_or front 0 0) 1
ascii_front p q mode front more h low = ap (gb18030_unit p q mode) (front_of_one front more h) ∙ of_ascii p q mode _ _ low

pub euro_front : (p q : Places) (mode : Mode) (front more : List ℕ) → 1 ≤ length front → get_or front 0 0 ≡ 0x80 → gb18030_unit p q mode (front ++ more) ≡ scalar_at mode 0x20AC 1
euro_front p q mode front more h e = ap (gb18030_unit p q mode) (front_of_one front more h) ∙ of_80 p q mode _ _ e

pub no_lead_front : (p q : Places) (mode : Mode) (front more : List ℕ) → 1 ≤ length front → 0x81 ≤ get_or front 0 0 → is_gb18030_lead (get_or front 0 0) ≡ false
    → gb18030_unit p q mode (front ++ more) ≡ malformed_at mode 1
no_lead_front p q mode front more h high e = ap (gb18030_unit p q mode) (front_of_one front more h) ∙ of_no_lead p q mode _ _ high e

pub lead_at_end : (p q : Places) (mode : Mode) (front : List ℕ) → 1 ≤ length front → length front < 2 → is_gb18030_lead (get_or front 0 0) ≡ true → gb18030_unit p q mode front ≡ malformed_at mode 1
lead_at_end p q mode front h l e = ap (gb18030_unit p q mode) (only_one front h l) ∙ of_cut_lead p q mode _ e

pub lead_undecided : (p q : Places) (mode : Mode) (front : List ℕ) → 1 ≤ length front → length front < 2 → is_gb18030_lead (get_or front 0 0) ≡ true → IsUndecided (gb18030_unit p q) mode front
lead_undecided p q mode front h l e =
    undecided_by (gb18030_unit p q) mode front (0xFF ∷ []) 1 2 (one_byte 0xFF (omega arith))
    (ap (λ u. u.len) (lead_at_end p q mode front h l e))
    (ap (λ rest. (gb18030_unit p q mode (rest ++ (0xFF ∷ []))).len) (only_one front h l) ∙ ap (λ u. u.len) (of_ff p q mode _ e))
    (λ same. omega arith)

pub two_front : (p q : Places) (mode : Mode) (front more : List ℕ) → 2 ≤ length front → is_gb18030_lead (get_or front 0 0) ≡ true → is_gb18030_digit (get_or front 1 0) ≡ false
    → gb18030_unit p q mode (front ++ more) ≡ sequence_unit mode (gb18030_scalar p (get_or front 0 0) (get_or front 1 0)) 2 (get_or front 1 0)
two_front p q mode front more h e f = ap (gb18030_unit p q mode) (front_of_two front more h) ∙ of_two p q mode _ _ _ e f

-- two bytes of a sequence of four, at a front
pub record BeginsFour (front : List ℕ) : Type 0 where
  pub two : 2 ≤ length front
  pub lead : is_gb18030_lead (get_or front 0 0) ≡ true
  pub digit : is_gb18030_digit (get_or front 1 0) ≡ true

pub digit_at_end : (p q : Places) (mode : Mode) (front : List ℕ) → BeginsFour front → length front < 3 → gb18030_unit p q mode front ≡ malformed_at mode 2
digit_at_end p q mode front is l = ap (gb18030_unit p q mode) (only_two front is.two l) ∙ of_cut_digit p q mode _ _ is.lead is.digit

pub digit_undecided : (p q : Places) (mode : Mode) (front : List ℕ) → BeginsFour front → length front < 3 → IsUndecided (gb18030_unit p q) mode front
digit_undecided p q mode front is l =
    undecided_by (gb18030_unit p q) mode front (0xFF ∷ []) 2 1 (one_byte 0xFF (omega arith))
    (ap (λ u. u.len) (digit_at_end p q mode front is l))
    (ap (λ rest. (gb18030_unit p q mode (rest ++ (0xFF ∷ []))).len) (only_two front is.two l) ∙ ap (λ u. u.len) (of_no_third p q mode _ _ 0xFF [] is.lead is.digit refl))
    (λ same. omega arith)

pub no_third_front : (p q : Places) (mode : Mode) (front more : List ℕ) → BeginsFour front → 3 ≤ length front → is_gb18030_lead (get_or front 2 0) ≡ false
    → gb18030_unit p q mode (front ++ more) ≡ malformed_at mode 1
no_third_front p q mode front more is h e = ap (gb18030_unit p q mode) (front_of_three front more h) ∙ of_no_third p q mode _ _ _ _ is.lead is.digit e

pub third_at_end : (p q : Places) (mode : Mode) (front : List ℕ) → BeginsFour front → 3 ≤ length front → length front < 4 → is_gb18030_lead (get_or front 2 0) ≡ true
    → gb18030_unit p q mode front ≡ malformed_at mode 3
third_at_end p q mode front is h l e = ap (gb18030_unit p q mode) (only_three front h l) ∙ of_cut_third p q mode _ _ _ is.lead is.digit e

pub third_undecided : (p q : Places) (mode : Mode) (front : List ℕ) → BeginsFour front → 3 ≤ length front → length front < 4 → is_gb18030_lead (get_or front 2 0) ≡ true
    → IsUndecided (gb18030_unit p q) mode front
third_undecided p q mode front is h l e =
    undecided_by (gb18030_unit p q) mode front (0xFF ∷ []) 3 1 (one_byte 0xFF (omega arith))
    (ap (λ u. u.len) (third_at_end p q mode front is h l e))
    (ap (λ rest. (gb18030_unit p q mode (rest ++ (0xFF ∷ []))).len) (only_three front h l) ∙ ap (λ u. u.len) (of_no_fourth p q mode _ _ _ 0xFF [] is.lead is.digit e refl))
    (λ same. omega arith)

pub no_fourth_front : (p q : Places) (mode : Mode) (front more : List ℕ) → BeginsFour front → 4 ≤ length front → is_gb18030_lead (get_or front 2 0) ≡ true → is_gb18030_digit (get_or front 3 0) ≡ false
    → gb18030_unit p q mode (front ++ more) ≡ malformed_at mode 1
no_fourth_front p q mode front more is h e f = ap (gb18030_unit p q mode) (front_of_four front more h) ∙ of_no_fourth p q mode _ _ _ _ _ is.lead is.digit e f

pub four_front : (p q : Places) (mode : Mode) (front more : List ℕ) → BeginsFour front → 4 ≤ length front → is_gb18030_lead (get_or front 2 0) ≡ true → is_gb18030_digit (get_or front 3 0) ≡ true
    → gb18030_unit p q mode (front ++ more) ≡ whole_unit mode (q (ranges_place (get_or front 0 0) (get_or front 1 0) (get_or front 2 0) (get_or front 3 0))) 4
four_front p q mode front more is h e f = ap (gb18030_unit p q mode) (front_of_four front more h) ∙ of_four p q mode _ _ _ _ _ is.lead is.digit e f

-- two bytes with a scalar
pub two_reads : (p q : Places) (a b code : ℕ) → is_gb18030_lead a ≡ true → is_gb18030_digit b ≡ false → gb18030_scalar p a b ≡ Some code
    → (mode : Mode) (rest : List ℕ) → gb18030_unit p q mode (a ∷ b ∷ rest) ≡ scalar_at mode code 2
two_reads p q a b code lead digit e mode rest = of_two p q mode a b rest lead digit ∙ ap (λ o. sequence_unit mode o 2 b) e
