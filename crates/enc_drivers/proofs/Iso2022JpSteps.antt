-- What the front of bytes tells of the unit in ISO-2022-JP.
use Rattle.std.proofs.Common.{◌≡◌, ℕ, ◌<◌, ◌≤◌, Bool, true, false, cond, List, [], ◌∷◌, ◌++◌, length, get_or, refl, ap, subst, sym, ◌∙◌, arith, inl, inr}
use Rattle.std.specs.Prelude.{◌==◌, ◌||◌, ◌+◌, ◌-◌, ◌*◌, ◌⊎◌, None, Some}
use Rattle.std.proofs.lemmas.Bool.{lt-ltb, ne_eqb, eqb-true, or_cases, or_parts}
use Rattle.std.proofs.lemmas.List.{append-nil}
use Rattle.enc_drivers.specs.declared.unit.Item.TheVariants.{Malformed}
use Rattle.enc_drivers.specs.declared.unit.JisSet.{JisSet}
use Rattle.enc_drivers.specs.declared.unit.Mode.{Mode}
use Rattle.enc_drivers.specs.declared.unit.Mode.TheVariants.{Within}
use Rattle.enc_drivers.specs.declared.code.Step.{Step}
use Rattle.enc_drivers.specs.declared.code.Step.TheVariants as step
use Rattle.enc_drivers.specs.Units.{Code, malformed_at, scalar_at}
use Rattle.enc_drivers.specs.Lookup.{Places}
use Rattle.enc_drivers.specs.Steps.{IsUndecided, Steps}
use Rattle.enc_drivers.specs.Codes.Sequence.{whole_unit}
use Rattle.enc_drivers.specs.Codes.Iso2022Jp.{set_of, escape_set, escaped, escape_unit, single_scalar, in_jis_row, is_jis_lead, jis_pair, set_unit, iso_2022_jp_unit, ascii_scalar, IsPlain}
use Rattle.enc_drivers.proofs.Fronts.{front_of_one, front_of_two, front_of_three, only_one, only_two, one_byte, two_bytes, undecided_by}

-- bytes that are malformed at the end, and undecided before it, in a mode that they leave
pub cut_to : (unit : Code) (mode next : Mode) (front : List ℕ) (last : Bool) (r : Step) (n : ℕ) → r ≡ cond last (step.Unit Malformed n next) step.More
    → unit mode front ≡ malformed_at next n → IsUndecided unit mode front → Steps unit mode front last r
cut_to unit mode next front true r n is at_end undecided =
    subst (λ s. Steps unit mode front true s) (sym is)
    (λ more follows. ap (unit mode) (ap (λ m. front ++ m) (follows.none refl) ∙ append-nil front) ∙ at_end)
cut_to unit mode next front false r n is at_end undecided = subst (λ s. Steps unit mode front false s) (sym is) (refl, undecided)

-- the unit of an escape
of_escape : (q : Places) (mode : Mode) (a : ℕ) (rest : List ℕ) → a ≡ 0x1B → iso_2022_jp_unit q mode (a ∷ rest) ≡ escape_unit mode rest
unfolding iso_2022_jp_unit
of_escape q mode a rest e = rw e refl

of_one : (q : Places) (mode : Mode) (a : ℕ) → a ≡ 0x1B → iso_2022_jp_unit q mode (a ∷ []) ≡ malformed_at (Within (set_of mode)) 1
unfolding escape_unit
of_one q mode a e = of_escape q mode a [] e

of_two : (q : Places) (mode : Mode) (a b : ℕ) → a ≡ 0x1B → iso_2022_jp_unit q mode (a ∷ b ∷ []) ≡ malformed_at (Within (set_of mode)) 1
unfolding escape_unit
of_two q mode a b e = of_escape q mode a (b ∷ []) e

of_three : (q : Places) (mode : Mode) (a b c : ℕ) (rest : List ℕ) → a ≡ 0x1B → iso_2022_jp_unit q mode (a ∷ b ∷ c ∷ rest) ≡ escaped mode (escape_set b c)
unfolding escape_unit
of_three q mode a b c rest e = of_escape q mode a (b ∷ c ∷ rest) e

-- 42 completes an escape behind 24 and 28, and no byte does behind others
completed : (mode : Mode) (b : ℕ) → (b == 0x24 || b == 0x28) ≡ true → (escaped mode (escape_set b 0x42)).len ≡ 3
unfolding escape_set
completed mode b e = by_case (or_cases (b == 0x24) (b == 0x28) e)
  where
    by_case : ((b == 0x24) ≡ true) ⊎ ((b == 0x28) ≡ true) → (escaped mode (escape_set b 0x42)).len ≡ 3
    by_case (inl f) = rw (eqb-true b 0x24 f) refl
    by_case (inr f) = rw (eqb-true b 0x28 f) refl

names_none : (b c : ℕ) → (b == 0x24 || b == 0x28) ≡ false → escape_set b c ≡ None
unfolding escape_set
names_none b c e =
    let parts = or_parts (b == 0x24) (b == 0x28) e in
    rw (parts.1, parts.0) refl

no_name : (q : Places) (mode : Mode) (a b : ℕ) (rest : List ℕ) → a ≡ 0x1B → (b == 0x24 || b == 0x28) ≡ false → iso_2022_jp_unit q mode (a ∷ b ∷ rest) ≡ malformed_at (Within (set_of mode)) 1
no_name q mode a b [] e f = of_two q mode a b e
no_name q mode a b (c ∷ rest) e f = of_three q mode a b c rest e ∙ ap (escaped mode) (names_none b c f)

-- the same of a front
pub escape_at_end : (q : Places) (mode : Mode) (front : List ℕ) → 1 ≤ length front → length front < 2 → get_or front 0 0 ≡ 0x1B → iso_2022_jp_unit q mode front ≡ malformed_at (Within (set_of mode)) 1
escape_at_end q mode front h l e = ap (iso_2022_jp_unit q mode) (only_one front h l) ∙ of_one q mode _ e

pub escape_undecided : (q : Places) (mode : Mode) (front : List ℕ) → 1 ≤ length front → length front < 2 → get_or front 0 0 ≡ 0x1B → IsUndecided (iso_2022_jp_unit q) mode front
escape_undecided q mode front h l e =
    undecided_by (iso_2022_jp_unit q) mode front (0x28 ∷ 0x42 ∷ []) 1 3 (two_bytes 0x28 0x42 (omega arith) (omega arith))
    (ap (λ u. u.len) (escape_at_end q mode front h l e))
    (ap (λ rest. (iso_2022_jp_unit q mode (rest ++ (0x28 ∷ 0x42 ∷ []))).len) (only_one front h l) ∙ (ap (λ u. u.len) (of_three q mode _ 0x28 0x42 [] e) ∙ completed mode 0x28 refl))
    (λ same. omega arith)

pub name_at_end : (q : Places) (mode : Mode) (front : List ℕ) → 2 ≤ length front → length front < 3 → get_or front 0 0 ≡ 0x1B → iso_2022_jp_unit q mode front ≡ malformed_at (Within (set_of mode)) 1
name_at_end q mode front h l e = ap (iso_2022_jp_unit q mode) (only_two front h l) ∙ of_two q mode _ _ e

pub name_undecided : (q : Places) (mode : Mode) (front : List ℕ) → 2 ≤ length front → length front < 3 → get_or front 0 0 ≡ 0x1B → (get_or front 1 0 == 0x24 || get_or front 1 0 == 0x28) ≡ true
    → IsUndecided (iso_2022_jp_unit q) mode front
name_undecided q mode front h l e f =
    undecided_by (iso_2022_jp_unit q) mode front (0x42 ∷ []) 1 3 (one_byte 0x42 (omega arith))
    (ap (λ u. u.len) (name_at_end q mode front h l e))
    (ap (λ rest. (iso_2022_jp_unit q mode (rest ++ (0x42 ∷ []))).len) (only_two front h l) ∙ (ap (λ u. u.len) (of_three q mode _ _ 0x42 [] e) ∙ completed mode _ f))
    (λ same. omega arith)

pub no_name_front : (q : Places) (mode : Mode) (front more : List ℕ) → 2 ≤ length front → get_or front 0 0 ≡ 0x1B → (get_or front 1 0 == 0x24 || get_or front 1 0 == 0x28) ≡ false
    → iso_2022_jp_unit q mode (front ++ more) ≡ malformed_at (Within (set_of mode)) 1
no_name_front q mode front more h e f = ap (iso_2022_jp_unit q mode) (front_of_two front more h) ∙ no_name q mode _ _ _ e f

pub escape_front : (q : Places) (mode : Mode) (front more : List ℕ) → 3 ≤ length front → get_or front 0 0 ≡ 0x1B
    → iso_2022_jp_unit q mode (front ++ more) ≡ escaped mode (escape_set (get_or front 1 0) (get_or front 2 0))
escape_front q mode front more h e = ap (iso_2022_jp_unit q mode) (front_of_three front more h) ∙ of_three q mode _ _ _ _ e

-- the unit of a character of a set
of_set : (q : Places) (mode : Mode) (set : JisSet) (a : ℕ) (rest : List ℕ) → (a ≡ 0x1B → ⊥) → set ≡ set_of mode → iso_2022_jp_unit q mode (a ∷ rest) ≡ set_unit q set a rest
unfolding iso_2022_jp_unit
of_set q mode set a rest differs is = rw (ne_eqb a 0x1B differs, is) refl

of_single : (q : Places) (set : JisSet) (a : ℕ) (rest : List ℕ) → is_jis_lead set a ≡ false → set_unit q set a rest ≡ whole_unit (Within set) (single_scalar set a) 1
unfolding set_unit
of_single q set a rest e = rw e refl

of_cut_pair : (q : Places) (set : JisSet) (a : ℕ) → is_jis_lead set a ≡ true → set_unit q set a [] ≡ malformed_at (Within set) 1
unfolding set_unit jis_pair
of_cut_pair q set a e = rw e refl

of_pair_before_escape : (q : Places) (set : JisSet) (a b : ℕ) (rest : List ℕ) → is_jis_lead set a ≡ true → b ≡ 0x1B → set_unit q set a (b ∷ rest) ≡ malformed_at (Within set) 1
unfolding set_unit jis_pair
of_pair_before_escape q set a b rest e f = rw (e, f) refl

of_no_pair : (q : Places) (set : JisSet) (a b : ℕ) (rest : List ℕ) → is_jis_lead set a ≡ true → (b ≡ 0x1B → ⊥) → in_jis_row b ≡ false → set_unit q set a (b ∷ rest) ≡ malformed_at (Within set) 2
unfolding set_unit jis_pair
of_no_pair q set a b rest e differs f = rw (e, ne_eqb b 0x1B differs, f) refl

of_pair : (q : Places) (set : JisSet) (a b : ℕ) (rest : List ℕ) → is_jis_lead set a ≡ true → (b ≡ 0x1B → ⊥) → in_jis_row b ≡ true
    → set_unit q set a (b ∷ rest) ≡ whole_unit (Within set) (q ((a - 0x21) * 94 + (b - 0x21))) 2
unfolding set_unit jis_pair
of_pair q set a b rest e differs f = rw (e, ne_eqb b 0x1B differs, f) refl

pub single_front : (q : Places) (mode : Mode) (set : JisSet) (front more : List ℕ) → 1 ≤ length front → (get_or front 0 0 ≡ 0x1B → ⊥) → set ≡ set_of mode → is_jis_lead set (get_or front 0 0) ≡ false
    → iso_2022_jp_unit q mode (front ++ more) ≡ whole_unit (Within set) (single_scalar set (get_or front 0 0)) 1
single_front q mode set front more h differs is e = ap (iso_2022_jp_unit q mode) (front_of_one front more h) ∙ (of_set q mode set _ _ differs is ∙ of_single q set _ _ e)

-- a byte that is itself
plain_scalar : (b : ℕ) → 0x20 ≤ b → b < 0x80 → ascii_scalar b ≡ Some b
unfolding ascii_scalar
plain_scalar b low high =
    let e = ne_eqb b 0x0E (λ e. omega arith) in
    let f = ne_eqb b 0x0F (λ e. omega arith) in
    let g = ne_eqb b 0x1B (λ e. omega arith) in
    let h = lt-ltb b 0x80 high in
    rw (e, f, g, h) refl

pub plain_front : (q : Places) (mode : Mode) (front more : List ℕ) → 1 ≤ length front → IsPlain mode (get_or front 0 0)
    → iso_2022_jp_unit q mode (front ++ more) ≡ scalar_at mode (get_or front 0 0) 1
plain_front q mode front more h plain =
    rw plain.set
    (single_front q (Within JisSet.Ascii) JisSet.Ascii front more h (λ e. absurd (omega (arith, plain.past_controls))) refl refl
    ∙ ap (λ o. whole_unit (Within JisSet.Ascii) o 1) (plain_scalar (get_or front 0 0) plain.past_controls plain.ascii))

-- a lead at a front, in a set
pub record BeginsPair (mode : Mode) (set : JisSet) (front : List ℕ) : Type 0 where
  pub some : 1 ≤ length front
  pub no_escape : get_or front 0 0 ≡ 0x1B → ⊥
  pub set_is : set ≡ set_of mode
  pub lead : is_jis_lead set (get_or front 0 0) ≡ true

pub lead_at_end : (q : Places) (mode : Mode) (set : JisSet) (front : List ℕ) → BeginsPair mode set front → length front < 2 → iso_2022_jp_unit q mode front ≡ malformed_at (Within set) 1
lead_at_end q mode set front is l = ap (iso_2022_jp_unit q mode) (only_one front is.some l) ∙ (of_set q mode set _ _ is.no_escape is.set_is ∙ of_cut_pair q set _ is.lead)

pub lead_undecided : (q : Places) (mode : Mode) (set : JisSet) (front : List ℕ) → BeginsPair mode set front → length front < 2 → IsUndecided (iso_2022_jp_unit q) mode front
lead_undecided q mode set front is l =
    undecided_by (iso_2022_jp_unit q) mode front (0 ∷ []) 1 2 (one_byte 0 (omega arith))
    (ap (λ u. u.len) (lead_at_end q mode set front is l))
    (ap (λ rest. (iso_2022_jp_unit q mode (rest ++ (0 ∷ []))).len) (only_one front is.some l)
    ∙ ap (λ u. u.len) (of_set q mode set _ _ is.no_escape is.set_is ∙ of_no_pair q set _ 0 [] is.lead (λ same. omega arith) refl))
    (λ same. omega arith)

pub before_escape_front : (q : Places) (mode : Mode) (set : JisSet) (front more : List ℕ) → BeginsPair mode set front → 2 ≤ length front → get_or front 1 0 ≡ 0x1B
    → iso_2022_jp_unit q mode (front ++ more) ≡ malformed_at (Within set) 1
before_escape_front q mode set front more is h e =
    ap (iso_2022_jp_unit q mode) (front_of_two front more h) ∙ (of_set q mode set _ _ is.no_escape is.set_is ∙ of_pair_before_escape q set _ _ _ is.lead e)

pub no_pair_front : (q : Places) (mode : Mode) (set : JisSet) (front more : List ℕ) → BeginsPair mode set front → 2 ≤ length front → (get_or front 1 0 ≡ 0x1B → ⊥) → in_jis_row (get_or front 1 0) ≡ false
    → iso_2022_jp_unit q mode (front ++ more) ≡ malformed_at (Within set) 2
no_pair_front q mode set front more is h differs e =
    ap (iso_2022_jp_unit q mode) (front_of_two front more h) ∙ (of_set q mode set _ _ is.no_escape is.set_is ∙ of_no_pair q set _ _ _ is.lead differs e)

pub pair_front : (q : Places) (mode : Mode) (set : JisSet) (front more : List ℕ) → BeginsPair mode set front → 2 ≤ length front → (get_or front 1 0 ≡ 0x1B → ⊥) → in_jis_row (get_or front 1 0) ≡ true
    → iso_2022_jp_unit q mode (front ++ more) ≡ whole_unit (Within set) (q ((get_or front 0 0 - 0x21) * 94 + (get_or front 1 0 - 0x21))) 2
pair_front q mode set front more is h differs e =
    ap (iso_2022_jp_unit q mode) (front_of_two front more h) ∙ (of_set q mode set _ _ is.no_escape is.set_is ∙ of_pair q set _ _ _ is.lead differs e)
