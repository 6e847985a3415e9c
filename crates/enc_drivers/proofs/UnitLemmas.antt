-- The units of a list of bytes, one after another.
use Rattle.std.proofs.Common.{◌≡◌, ℕ, zero, suc, ◌+◌, ◌-◌, ◌*◌, ◌<◌, ◌≤◌, List, [], ◌∷◌, ◌++◌, length, drop, refl, ap, sym, ◌∙◌, arith, length-append, length-drop}
use Rattle.std.specs.List.{sum_by}
use Rattle.std.proofs.lemmas.List.Elements.{All-drop}
use Rattle.std.proofs.lemmas.List.Sums.{sum_by-cons}
use Rattle.enc_drivers.specs.declared.unit.Item.{Item}
use Rattle.enc_drivers.specs.declared.unit.Mode.{Mode}
use Rattle.enc_drivers.specs.Units.{Code, IsCode, AreBytes, first_units, units, text, item_text}

first_units_nil : (unit : Code) (n : ℕ) (mode : Mode) → first_units unit n mode [] ≡ []
unfolding first_units
first_units_nil unit zero mode = refl
first_units_nil unit (suc n) mode = refl

pub units_nil : (unit : Code) (mode : Mode) → units unit mode [] ≡ []
unfolding units
units_nil unit mode = first_units_nil unit 0 mode

module _ (unit : Code) (code : IsCode unit) where
  -- the number of units asked for does not matter where it is no less than the number of bytes
  first_units_turns : (n k : ℕ) (mode : Mode) (bytes : List ℕ) → AreBytes bytes → length bytes ≤ n → length bytes ≤ k → first_units unit n mode bytes ≡ first_units unit k mode bytes
  unfolding first_units
  first_units_turns n k mode [] are a b = first_units_nil unit n mode ∙ sym (first_units_nil unit k mode)
  first_units_turns zero k mode (x ∷ bytes) are a b = absurd (omega arith)
  first_units_turns (suc n) zero mode (x ∷ bytes) are a b = absurd (omega arith)
  first_units_turns (suc n) (suc k) mode (x ∷ bytes) are a b =
      let u = unit mode (x ∷ bytes) in
      let each = code.each mode (x ∷ bytes) are (omega arith) in
      let gone : length (drop u.len (x ∷ bytes)) ≤ length bytes = rw (length-drop u.len (x ∷ bytes)) (omega (arith, each.some)) in
      ap (λ rest. (u.item, u.len) ∷ rest)
      (first_units_turns n k u.next (drop u.len (x ∷ bytes)) (All-drop (λ c. c < 256) u.len (x ∷ bytes) are) (omega arith) (omega arith))

  pub units_some : (mode : Mode) (bytes : List ℕ) → AreBytes bytes → 0 < length bytes →
      let u = unit mode bytes in units unit mode bytes ≡ (u.item, u.len) ∷ units unit u.next (drop u.len bytes)
  unfolding units first_units
  units_some mode [] are h = absurd (omega arith)
  units_some mode (x ∷ bytes) are h =
      let u = unit mode (x ∷ bytes) in
      let each = code.each mode (x ∷ bytes) are (omega arith) in
      let gone : length (drop u.len (x ∷ bytes)) ≤ length bytes = rw (length-drop u.len (x ∷ bytes)) (omega (arith, each.some)) in
      ap (λ rest. (u.item, u.len) ∷ rest)
      (first_units_turns (length bytes) (length (drop u.len (x ∷ bytes))) u.next (drop u.len (x ∷ bytes)) (All-drop (λ c. c < 256) u.len (x ∷ bytes) are) (omega arith) (omega arith))

  -- by induction on a bound of the length
  cover_within : (n : ℕ) (mode : Mode) (bytes : List ℕ) → AreBytes bytes → length bytes ≤ n → sum_by (λ (u : Item × ℕ). u.1) (units unit mode bytes) ≡ length bytes
  cover_within n mode [] are h = rw (units_nil unit mode) refl
  cover_within zero mode (x ∷ bytes) are h = absurd (omega arith)
  cover_within (suc n) mode (x ∷ bytes) are h =
      let u = unit mode (x ∷ bytes) in
      let each = code.each mode (x ∷ bytes) are (omega arith) in
      let gone : length (drop u.len (x ∷ bytes)) ≡ length (x ∷ bytes) - u.len = length-drop u.len (x ∷ bytes) in
      let rest = cover_within n u.next (drop u.len (x ∷ bytes)) (All-drop (λ c. c < 256) u.len (x ∷ bytes) are) (omega (arith, each.some)) in
      ap (λ us. sum_by (λ (v : Item × ℕ). v.1) us) (units_some mode (x ∷ bytes) are (omega arith))
      ∙ sum_by-cons (λ (v : Item × ℕ). v.1) (u.item, u.len) (units unit u.next (drop u.len (x ∷ bytes)))
      ∙ ap (λ k. u.len + k) (rest ∙ gone)
      ∙ (omega (arith, each.within))

  pub units_cover_law : (mode : Mode) (bytes : List ℕ) → AreBytes bytes → sum_by (λ (u : Item × ℕ). u.1) (units unit mode bytes) ≡ length bytes
  units_cover_law mode bytes are = cover_within (length bytes) mode bytes are (omega arith)

pub text-cons : (u : Item × ℕ) (us : List (Item × ℕ)) → text (u ∷ us) ≡ item_text u.0 ++ text us
unfolding text
text-cons u us = refl

pub text_nil : text [] ≡ []
unfolding text
text_nil = refl

module _ (unit : Code) (code : IsCode unit) where
  short_within : (n : ℕ) (mode : Mode) (bytes : List ℕ) → AreBytes bytes → length bytes ≤ n → length (text (units unit mode bytes)) ≤ 3 * length bytes
  short_within n mode [] are h = rw (units_nil unit mode, text_nil) (omega arith)
  short_within zero mode (x ∷ bytes) are h = absurd (omega arith)
  short_within (suc n) mode (x ∷ bytes) are h =
      let u = unit mode (x ∷ bytes) in
      let each = code.each mode (x ∷ bytes) are (omega arith) in
      let gone : length (drop u.len (x ∷ bytes)) ≡ length (x ∷ bytes) - u.len = length-drop u.len (x ∷ bytes) in
      let rest = short_within n u.next (drop u.len (x ∷ bytes)) (All-drop (λ c. c < 256) u.len (x ∷ bytes) are) (omega (arith, each.some)) in
      rw (units_some unit code mode (x ∷ bytes) are (omega arith), text-cons (u.item, u.len) (units unit u.next (drop u.len (x ∷ bytes))), length-append (item_text u.item) (text (units unit u.next (drop u.len (x ∷ bytes)))))
      (omega (arith, each.within, each.short_text))

  pub short_text_law : (mode : Mode) (bytes : List ℕ) → AreBytes bytes → length (text (units unit mode bytes)) ≤ 3 * length bytes
  short_text_law mode bytes are = short_within (length bytes) mode bytes are (omega arith)
