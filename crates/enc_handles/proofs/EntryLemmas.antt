-- An entry that is written.
use Rattle.std.proofs.Common.{◌≡◌, ℕ, ◌+◌, ◌-◌, ◌<◌, ◌≤◌, List, [], ◌∷◌, ◌++◌, map, flat_map, length, take, refl, ap, ap₂, sym, ◌∙◌, arith}
use Rattle.std.specs.Borrow.{GName}
use lib.Lanes.{Each1}
use lib.Utf8.{encode}
use Rattle.enc_strides.specs.Utf8.{entry_text, Appended}
use Rattle.enc_strides.proofs.Utf8Lemmas.{text_is}
use Rattle.enc_handles.specs.Entries.{entry_of, PutsEntry, PutsEntries, WritesEntry, WritesEntries}
use Rattle.enc_handles.specs.Utf8.{text_of}
use Rattle.enc_handles.proofs.AsciiLemmas.{written}

pub puts_entry : (old new : List ℕ) (at end number : ℕ) → at + 4 ≤ length old → end ≤ at + 3 → Appended old new at end (entry_text number) → length new ≡ length old
    → PutsEntry encode old new at end number
puts_entry old new at end number room bound done same = record {
  place = λ scalar small e. done.place ∙ ap (λ l. at + length l) (ap entry_text e ∙ text_is scalar small);
  text = λ scalar small e.
      let text = ap entry_text e ∙ text_is scalar small in
      record {
        front = ap (λ n. take n new) (sym (done.place ∙ ap (λ l. at + length l) text)) ∙ (done.value ∙ ap (λ l. take at old ++ l) text);
        same_length = same;
      };
  fits = omega arith;
  same_length = same;
}

pub writes_entry : (form : ℕ → List ℕ) (old new : List ℕ) (at end number : ℕ) (b b' : GName) → PutsEntry form old new at end number → at ≤ length old → b' ≡ b
    → WritesEntry form (record { text = take at old; free = length old - at; buffer = b }) (record { text = take end new; free = length new - end; buffer = b' }) number
writes_entry form old new at end number b b' puts within same scalar small e = (
  written old new (form scalar) (form scalar) at end b b' (puts.text scalar small e) (puts.place scalar small e) same refl,
  omega (arith, puts.place scalar small e, puts.fits),
)

texts_are : (scalars : List ℕ) → Each1 (λ c. c < 0x1_0000) scalars → flat_map entry_text (map entry_of scalars) ≡ text_of encode scalars
texts_are [] small = refl
texts_are (c ∷ scalars) small = ap₂ (λ a b. a ++ b) (text_is c small.0) (texts_are scalars small.1)

pub puts_entries : (old new : List ℕ) (at end : ℕ) (numbers : List ℕ) → at + 25 ≤ length old → end ≤ at + 24 → Appended old new at end (flat_map entry_text numbers) → length new ≡ length old
    → PutsEntries encode old new at end numbers
puts_entries old new at end numbers room bound done same = record {
  place = λ scalars are. done.place ∙ ap (λ l. at + length l) (ap (λ l. flat_map entry_text l) are.entries ∙ texts_are scalars are.small);
  text = λ scalars are.
      let text = ap (λ l. flat_map entry_text l) are.entries ∙ texts_are scalars are.small in
      record {
        front = ap (λ n. take n new) (sym (done.place ∙ ap (λ l. at + length l) text)) ∙ (done.value ∙ ap (λ l. take at old ++ l) text);
        same_length = same;
      };
  fits = omega arith;
  same_length = same;
}

pub writes_entries : (form : ℕ → List ℕ) (old new : List ℕ) (at end : ℕ) (numbers : List ℕ) (b b' : GName) → PutsEntries form old new at end numbers → at ≤ length old → b' ≡ b
    → WritesEntries form (record { text = take at old; free = length old - at; buffer = b }) (record { text = take end new; free = length new - end; buffer = b' }) numbers
writes_entries form old new at end numbers b b' puts within same scalars are = (
  written old new (text_of form scalars) (text_of form scalars) at end b b' (puts.text scalars are) (puts.place scalars are) same refl,
  omega (arith, puts.place scalars are, puts.fits),
)
