-- Whole characters at the front of a text.
use Rattle.std.proofs.Common.{◌≡◌, ℕ, zero, suc, ◌<◌, ◌≤◌, Bool, true, false, List, length, get_or, ⊎_elim, refl, ap, subst, ◌∙◌, arith}
use Rattle.std.specs.Prelude.{not, ◌&&◌, nat_le, nat_lt, IsCharBoundary, IsUtf8, slice_index, if◌then◌else◌}
use Rattle.std.proofs.lemmas.Bool.{cases_lt}
use Rattle.std.proofs.lemmas.Bool.Decides.{nat_tests}
use Rattle.std.proofs.lemmas.List.{get_or_past}
use Rattle.std.proofs.lemmas.Str.{IsCharBoundary-start, IsCharBoundary-from_take}
use Rattle.enc_handles.proofs.Fronts.{first_of}
use Rattle.word_writer.specs.Groups.{is_between_characters, fitting, group_room, group_len, begins_with_mark}

-- the test of a place between characters says what std's relation does
byte-test : (at len b : ℕ) → (nat_le at len && not (nat_le 0x80 b && nat_lt b 0xC0)) ≡ true → (at ≤ len) × (at < len → 128 ≤ b → 192 ≤ b)
byte-test at len b h = (grind (arith, nat_tests), λ inside high. grind (arith, nat_tests))

byte-between : (at len b : ℕ) → at ≤ len → (128 ≤ b → 192 ≤ b) → (nat_le at len && not (nat_le 0x80 b && nat_lt b 0xC0)) ≡ true
byte-between at len b within lead =
    ⊎_elim (λ low. grind (arith, nat_tests)) (λ high. let lead_byte : 192 ≤ b = lead high in grind (arith, nat_tests)) (cases_lt b 128)

pub boundary-from_test : (text : List ℕ) (at : ℕ) → is_between_characters text at ≡ true → IsCharBoundary text at
boundary-from_test text at h = byte-test at (length text) (slice_index text at) h

pub test-from_boundary : (text : List ℕ) (at : ℕ) → IsCharBoundary text at → is_between_characters text at ≡ true
test-from_boundary text at h =
    byte-between at (length text) (slice_index text at) h.0
    (⊎_elim (λ inside. h.1 inside) (λ past high. let none : get_or text at 0 ≡ 0 = get_or_past text at 0 past in absurd (omega arith)) (cases_lt at (length text)))

-- a place between characters that fits is no more than what fits
pub fitting-most : (text : List ℕ) (room at : ℕ) → at ≤ room → IsCharBoundary text at → at ≤ fitting text room
unfolding fitting
fitting-most text zero at le h = le
fitting-most text (suc room) at le h = by_test (is_between_characters text (suc room)) refl (λ less. fitting-most text room at less h)
  where
    by_test : (t : Bool) → is_between_characters text (suc room) ≡ t → (at ≤ room → at ≤ fitting text room) → at ≤ (if t then suc room else fitting text room)
    by_test true e shorter = le
    by_test false e shorter =
        ⊎_elim (λ less. shorter (omega arith))
        (λ same. let is : at ≡ suc room = omega arith in absurd (let yes = test-from_boundary text (suc room) (subst (λ k. IsCharBoundary text k) is h) in cc))
        (cases_lt at (suc room))

pub fitting-le : (text : List ℕ) (room : ℕ) → fitting text room ≤ room
unfolding fitting
fitting-le text zero = omega arith
fitting-le text (suc room) = by_test (is_between_characters text (suc room)) (fitting-le text room)
  where
    by_test : (t : Bool) → fitting text room ≤ room → (if t then suc room else fitting text room) ≤ suc room
    by_test true le = omega arith
    by_test false le = omega arith

-- what fits is whole characters
pub fitting-boundary : (text : List ℕ) (room : ℕ) → IsCharBoundary text 0 → IsCharBoundary text (fitting text room)
unfolding fitting
fitting-boundary text zero h = h
fitting-boundary text (suc room) h = by_test (is_between_characters text (suc room)) refl (fitting-boundary text room h)
  where
    by_test : (t : Bool) → is_between_characters text (suc room) ≡ t → IsCharBoundary text (fitting text room)
        → IsCharBoundary text (if t then suc room else fitting text room)
    by_test true e shorter = boundary-from_test text (suc room) e
    by_test false e shorter = shorter

-- std's call finds what fits
pub fitting-is : (text : List ℕ) (room at : ℕ) → IsUtf8 text → at ≤ room → IsCharBoundary text at
    → ((i : ℕ) → at < i → i ≤ room → ¬ (IsCharBoundary text i)) → at ≡ fitting text room
fitting-is text room at utf8 le h none =
    let most = fitting-most text room at le h in
    let few = fitting-le text room in
    ⊎_elim (λ less. absurd (none (fitting text room) less few (fitting-boundary text room (IsCharBoundary-start text utf8)))) (λ same. omega arith) (cases_lt at (fitting text room))

-- the first character fits
pub fitting-some : (text : List ℕ) (room : ℕ) → IsUtf8 text → 0 < length text → 4 ≤ room → 0 < fitting text room
fitting-some text room utf8 some wide =
    let first = first_of text utf8 some in
    let positive = first.some in
    let most = fitting-most text room first.len (omega (arith, first.four)) (IsCharBoundary-from_take text first.len utf8 first.within first.text) in
    omega arith

wide_room : (t : Bool) → 4 ≤ (if t then 42 else 45)
wide_room true = omega arith
wide_room false = omega arith

-- the group at the front has whole characters, one at least
pub group_len-some : (text : List ℕ) → IsUtf8 text → 0 < length text → 0 < group_len text
unfolding group_len
group_len-some text utf8 some = fitting-some text (group_room text) utf8 some (wide_room (begins_with_mark text))

pub group_len-boundary : (text : List ℕ) → IsUtf8 text → IsCharBoundary text (group_len text)
unfolding group_len
group_len-boundary text utf8 = fitting-boundary text (group_room text) (IsCharBoundary-start text utf8)

pub group_len-is : (text : List ℕ) (room at : ℕ) → room ≡ group_room text → IsUtf8 text → at ≤ room → IsCharBoundary text at
    → ((i : ℕ) → at < i → i ≤ room → ¬ (IsCharBoundary text i)) → at ≡ group_len text
unfolding group_len
group_len-is text room at e utf8 le h none = fitting-is text room at utf8 le h none ∙ ap (fitting text) e
