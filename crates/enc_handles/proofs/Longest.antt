-- Why a copy of well-formed sequences that stops has moved the longest front.
use Rattle.std.proofs.Common.{◌≡◌, ℕ, ◌+◌, ◌<◌, List, [], ◌∷◌, ◌++◌, length, take, drop, refl, sym, ap, subst, ◌∙◌, arith, append_assoc, length-append, ⊎_elim}
use Rattle.std.proofs.lemmas.Bool.{cases_lt, and_parts}
use Rattle.std.proofs.lemmas.Grind.{flat_map-append}
use Rattle.std.proofs.lemmas.List.{take-append-drop, take_at}
use Rattle.std.proofs.lemmas.Str.{encode_same}
use Rattle.std.specs.Char.{IsScalar}
use lib.Utf8.{encode, encodes}
use Rattle.enc_handles.specs.Utf8.{AreScalars, BeginsWith, text_of, IsFittingFront, IsLongestFront}

-- a list that begins with these sequences is their bytes and a rest
pub begins-split : (cs bytes : List ℕ) → BeginsWith cs bytes → bytes ≡ encodes cs ++ drop (length (encodes cs)) bytes
begins-split cs bytes h = sym (take-append-drop (length (encodes cs)) bytes) ∙ ap (λ (l : List ℕ). l ++ drop (length (encodes cs)) bytes) h

pub begins-from : (cs bytes rest : List ℕ) → bytes ≡ encodes cs ++ rest → BeginsWith cs bytes
begins-from cs bytes rest h = ap (take (length (encodes cs))) h ∙ take_at (encodes cs) rest (length (encodes cs)) refl

-- a longer row of sequences goes on behind a shorter one
pub record GoesOnWith (cs others rest : List ℕ) : Type 0 where
  pub next : ℕ
  pub more : List ℕ
  pub whole : others ≡ cs ++ next ∷ more
  pub tail : List ℕ
  pub here : rest ≡ encode next ++ tail

longer : (cs others rest tail : List ℕ) → encodes cs ++ rest ≡ encodes others ++ tail → length cs < length others → GoesOnWith cs others rest
longer cs [] rest tail e h = absurd (omega arith)
longer [] (o ∷ os) rest tail e h = record { next = o; more = os; whole = refl; tail = encodes os ++ tail; here = e ∙ append_assoc (encode o) (encodes os) tail }
longer (c ∷ cs) (o ∷ os) rest tail e h =
    let split : encode c ++ (encodes cs ++ rest) ≡ encode o ++ (encodes os ++ tail) =
    sym (append_assoc (encode c) (encodes cs) rest) ∙ (e ∙ append_assoc (encode o) (encodes os) tail) in
    let same = encode_same c o (encodes cs ++ rest) (encodes os ++ tail) split in
    let on = longer cs os rest tail same.1 (omega arith) in
    record {
      next = on.next;
      more = on.more;
      whole = ap (λ (x : ℕ). x ∷ os) (sym same.0) ∙ ap (λ (l : List ℕ). c ∷ l) on.whole;
      tail = on.tail;
      here = on.here;
    }

scalars_of : (cs others : List ℕ) (d : ℕ) (more : List ℕ) → others ≡ cs ++ d ∷ more → AreScalars others → IsScalar d
scalars_of [] others d more e h = (and_parts _ _ (subst AreScalars e h)).0
scalars_of (c ∷ cs) others d more e h = scalars_of cs (cs ++ d ∷ more) d more refl (and_parts _ _ (subst AreScalars e h)).1

-- where no well-formed sequence stands behind the front
pub longest-none : (form : ℕ → List ℕ) (bytes cs rest : List ℕ) (room : ℕ) → IsFittingFront form bytes room cs → bytes ≡ encodes cs ++ rest
    → ((d : ℕ) (tail : List ℕ) → IsScalar d → rest ≡ encode d ++ tail → ⊥) → IsLongestFront form bytes room cs
longest-none form bytes cs rest room fitting split none = record {
  fitting = fitting;
  longest = λ others f. ⊎_elim (λ above.
      let on = longer cs others rest _ (sym split ∙ begins-split others bytes f.front) above in
      absurd (none on.next on.tail (scalars_of cs others on.next on.more on.whole f.each) on.here))
      (λ below. below) (cases_lt (length cs) (length others));
}

-- where the text of the next sequence doesn't fit
pub longest-full : (form : ℕ → List ℕ) (bytes cs rest : List ℕ) (room c : ℕ) (after : List ℕ) → IsFittingFront form bytes room cs → bytes ≡ encodes cs ++ rest
    → rest ≡ encode c ++ after → room < length (text_of form cs) + length (form c) → IsLongestFront form bytes room cs
longest-full form bytes cs rest room c after fitting split next full = record {
  fitting = fitting;
  longest = λ others f. ⊎_elim (λ above.
      let on = longer cs others rest _ (sym split ∙ begins-split others bytes f.front) above in
      let same : c ≡ on.next = (encode_same c on.next after on.tail (sym next ∙ on.here)).0 in
      let text : text_of form others ≡ text_of form cs ++ (form on.next ++ text_of form on.more) =
      ap (text_of form) on.whole ∙ flat_map-append form cs (on.next ∷ on.more) in
      let count : length (text_of form others) ≡ length (text_of form cs) + (length (form on.next) + length (text_of form on.more)) =
      ap length text ∙ (length-append (text_of form cs) (form on.next ++ text_of form on.more) ∙ ap (λ n. length (text_of form cs) + n) (length-append (form on.next) (text_of form on.more))) in
      let one : length (form c) ≡ length (form on.next) = ap (λ (x : ℕ). length (form x)) same in
      absurd (omega (arith, f.fits)))
      (λ below. below) (cases_lt (length cs) (length others));
}
