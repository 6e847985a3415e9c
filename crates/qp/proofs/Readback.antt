-- What is read of trimmed lines that have no fault, one item after another.
use Rattle.std.proofs.Common.{◌≡◌, ℕ, ◌+◌, ◌≤◌, Bool, true, false, cond, eqb, None, List, [], ◌∷◌, ◌++◌, length, refl, ap, sym, ◌∙◌, arith}
use Rattle.std.proofs.lemmas.Bool.{false≢true}
use Rattle.qp.specs.Line.{literal, escape, parts, values, ends_soft, escape_value}
use Rattle.qp.specs.Strict.{first_fault, part_fault}
use Rattle.qp.proofs.Reading.{parts_literal, parts_escape, values-cons, ends_soft-cons}

-- the value of trimmed lines
unfoldable pub value_of : List (List ℕ) → List ℕ
value_of [] = []
value_of (s ∷ []) = values (parts s)
value_of (s ∷ t ∷ rest) = (values (parts s) ++ cond (ends_soft (parts s)) [] (13 ∷ 10 ∷ [])) ++ value_of (t ∷ rest)

-- the first of them isn't empty
abbrev pub inked : List (List ℕ) → Bool
inked [] = false
inked ([] ∷ rest) = false
inked ((x ∷ s) ∷ rest) = true

-- no line has a fault, and the first fits behind `used` octets
unfoldable pub Fine : ℕ → ℕ → List (List ℕ) → Type 0
Fine limit used [] = used ≤ limit
Fine limit used (s ∷ rest) = (used + length s ≤ limit) × (first_fault part_fault (parts s) ≡ None) × Fine limit 0 rest

-- a line that ends in a soft line break has a line after it that isn't empty
unfoldable pub Closed : List (List ℕ) → Type 0
Closed [] = Unit {0}
Closed (s ∷ rest) = (ends_soft (parts s) ≡ true → inked rest ≡ true) × Closed rest

pub record Reads (limit used : ℕ) (ss : List (List ℕ)) (v : List ℕ) : Type 0 where
  pub value : value_of ss ≡ v
  pub fine : Fine limit used ss
  pub closed : Closed ss

-- an octet that stands for itself, before lines
abbrev onto : ℕ → List (List ℕ) → List (List ℕ)
onto b [] = (b ∷ []) ∷ []
onto b (s ∷ rest) = (b ∷ s) ∷ rest

fault-literal : (b : ℕ) (s : List ℕ) → eqb b 61 ≡ false → first_fault part_fault (parts s) ≡ None → first_fault part_fault (parts (b ∷ s)) ≡ None
unfolding first_fault
fault-literal b s h e = rw (parts_literal b s h) e

soft-literal : (b : ℕ) (s : List ℕ) → eqb b 61 ≡ false → ends_soft (parts (b ∷ s)) ≡ ends_soft (parts s)
soft-literal b s h = ap ends_soft (parts_literal b s h) ∙ ends_soft-cons (literal b) (parts s)

values-literal : (b : ℕ) (s : List ℕ) → eqb b 61 ≡ false → values (parts (b ∷ s)) ≡ b ∷ values (parts s)
values-literal b s h = ap values (parts_literal b s h) ∙ values-cons (literal b) (parts s)

pub value-onto : (b : ℕ) (s : List ℕ) (rest : List (List ℕ)) → eqb b 61 ≡ false → value_of ((b ∷ s) ∷ rest) ≡ b ∷ value_of (s ∷ rest)
unfolding value_of
value-onto b s [] h = values-literal b s h
value-onto b s (t ∷ rest) h = rw (values-literal b s h, soft-literal b s h) refl

-- lines that are read with an octet before them that stands for itself
pub reads-literal : (limit used b : ℕ) (s : List ℕ) (rest : List (List ℕ)) (v : List ℕ) → eqb b 61 ≡ false
    → Reads limit (used + 1) (s ∷ rest) v → Reads limit used ((b ∷ s) ∷ rest) (b ∷ v)
unfolding Fine Closed
reads-literal limit used b s rest v h r = record {
  value = value-onto b s rest h ∙ ap (λ w. b ∷ w) r.value;
  fine = (omega (arith, r.fine.0), fault-literal b s h r.fine.1, r.fine.2);
  closed = (λ e. r.closed.0 (sym (soft-literal b s h) ∙ e), r.closed.1);
}

-- an escape, before lines
fault-escape : (u w : ℕ) (s : List ℕ) → part_fault (escape u w) ≡ None → first_fault part_fault (parts s) ≡ None → first_fault part_fault (parts (61 ∷ u ∷ w ∷ s)) ≡ None
unfolding first_fault
fault-escape u w s h e = rw (parts_escape 61 u w s refl, h) e

soft-escape : (u w : ℕ) (s : List ℕ) → ends_soft (parts (61 ∷ u ∷ w ∷ s)) ≡ ends_soft (parts s)
soft-escape u w s = ap ends_soft (parts_escape 61 u w s refl) ∙ ends_soft-cons (escape u w) (parts s)

values-escape : (u w b : ℕ) (s : List ℕ) → escape_value u w ≡ b ∷ [] → values (parts (61 ∷ u ∷ w ∷ s)) ≡ b ∷ values (parts s)
values-escape u w b s h = ap values (parts_escape 61 u w s refl) ∙ values-cons (escape u w) (parts s) ∙ ap (λ x. x ++ values (parts s)) h

pub value-escape : (u w b : ℕ) (s : List ℕ) (rest : List (List ℕ)) → escape_value u w ≡ b ∷ [] → value_of ((61 ∷ u ∷ w ∷ s) ∷ rest) ≡ b ∷ value_of (s ∷ rest)
unfolding value_of
value-escape u w b s [] h = values-escape u w b s h
value-escape u w b s (t ∷ rest) h = rw (values-escape u w b s h, soft-escape u w s) refl

pub reads-escape : (limit used u w b : ℕ) (s : List ℕ) (rest : List (List ℕ)) (v : List ℕ) → escape_value u w ≡ b ∷ [] → part_fault (escape u w) ≡ None
    → Reads limit (used + 3) (s ∷ rest) v → Reads limit used ((61 ∷ u ∷ w ∷ s) ∷ rest) (b ∷ v)
unfolding Fine Closed
reads-escape limit used u w b s rest v h f r = record {
  value = value-escape u w b s rest h ∙ ap (λ x. b ∷ x) r.value;
  fine = (omega (arith, r.fine.0), fault-escape u w s f r.fine.1, r.fine.2);
  closed = (λ e. r.closed.0 (sym (soft-escape u w s) ∙ e), r.closed.1);
}

-- line breaks, before lines
pub reads-none : (limit used : ℕ) → used ≤ limit → Reads limit used ([] ∷ []) []
unfolding value_of Fine Closed first_fault values parts ends_soft
reads-none limit used h = record { value = refl; fine = (omega arith, refl, omega arith); closed = (λ e. absurd (false≢true e), tt) }

pub reads-hard : (limit used : ℕ) (s : List ℕ) (rest : List (List ℕ)) (v : List ℕ) → used ≤ limit → Reads limit 0 (s ∷ rest) v → Reads limit used ([] ∷ s ∷ rest) (13 ∷ 10 ∷ v)
unfolding value_of Fine Closed first_fault values parts ends_soft
reads-hard limit used s rest v h r = record {
  value = ap (λ w. 13 ∷ 10 ∷ w) r.value;
  fine = (omega arith, refl, r.fine);
  closed = (λ e. absurd (false≢true e), r.closed);
}

pub reads-soft : (limit used : ℕ) (s : List ℕ) (rest : List (List ℕ)) (v : List ℕ) → used + 1 ≤ limit → inked (s ∷ rest) ≡ true
    → Reads limit 0 (s ∷ rest) v → Reads limit used ((61 ∷ []) ∷ s ∷ rest) v
unfolding value_of Fine Closed first_fault values parts ends_soft
reads-soft limit used s rest v h i r = record {
  value = r.value;
  fine = (omega arith, refl, r.fine);
  closed = (λ e. i, r.closed);
}
