-- A reading by recursion: each part with what stands before and after it.
use Rattle.std.proofs.Common.{◌≡◌, ℕ, zero, suc, ◌<◌, ◌⊎◌, inl, inr, Bool, true, false, Some, None, List, [], ◌∷◌, ◌++◌, length, drop, refl, sym, ap, ◌∙◌, subst, arith, append_assoc}
use Rattle.std.proofs.lemmas.Bool.{false≢true}
use Rattle.people.specs.Reading.{Syntax, Part, Encoded, Clear, Gap, spellings, IsGapText, EndsInWord, BeginsInWord, BeginsInClear, IsClearPlace, IsGapPlace, IsReading}

module _ {W : Type 0} (x : Syntax W) where
  -- no word begins in the text, before more
  abbrev pub NoWord : List ℕ → List ℕ → Type 0
  NoWord [] more = Unit {0}
  NoWord (b ∷ text) more = (x.word_at (b ∷ (text ++ more)) ≡ None) × NoWord text more

  pub NoWord-at : (text more : List ℕ) (k : ℕ) → NoWord text more → k < length text → x.word_at (drop k (text ++ more)) ≡ None
  NoWord-at [] more k h l = absurd (omega arith)
  NoWord-at (b ∷ text) more zero h l = h.0
  NoWord-at (b ∷ text) more (suc k) h l = NoWord-at text more k h.1 (omega arith)

  pub NoWord-from : (text more : List ℕ) → ((k : ℕ) → k < length text → x.word_at (drop k (text ++ more)) ≡ None) → NoWord text more
  NoWord-from [] more h = tt
  NoWord-from (b ∷ text) more h = (h 0 (omega arith), NoWord-from text more (λ k l. h (suc k) (omega arith)))

  -- the parts are a reading of what they spell, where `after_word` tells whether a word stands before them
  abbrev pub Reads : Bool → List (Part W) → Type 0
  Reads after_word [] = Unit {0}
  Reads after_word (Encoded w ∷ rest) = (x.word_at (x.spelling w ++ spellings x rest) ≡ Some w) × Reads true rest
  Reads after_word (Clear text ∷ rest) =
      (0 < length text) × NoWord text (spellings x rest) × (¬ BeginsInClear rest) × (after_word ≡ true → BeginsInWord rest → ¬ IsGapText x text) × Reads false rest
  Reads after_word (Gap text ∷ rest) = (after_word ≡ true) × (0 < length text) × IsGapText x text × BeginsInWord rest × Reads false rest

  -- whether the last of the parts is a word; `before` where there is no part
  abbrev pub ends_in_word : Bool → List (Part W) → Bool
  ends_in_word before [] = before
  ends_in_word before (Encoded w ∷ rest) = ends_in_word true rest
  ends_in_word before (Clear text ∷ rest) = ends_in_word false rest
  ends_in_word before (Gap text ∷ rest) = ends_in_word false rest

  pub ends_in_word-push_word : (a : Bool) (front : List (Part W)) (w : W) → ends_in_word a (front ++ Encoded w ∷ []) ≡ true
  ends_in_word-push_word a [] w = refl
  ends_in_word-push_word a (Encoded v ∷ front) w = ends_in_word-push_word true front w
  ends_in_word-push_word a (Clear t ∷ front) w = ends_in_word-push_word false front w
  ends_in_word-push_word a (Gap t ∷ front) w = ends_in_word-push_word false front w

  pub ends_in_word-push_clear : (a : Bool) (front : List (Part W)) (t : List ℕ) → ends_in_word a (front ++ Clear t ∷ []) ≡ false
  ends_in_word-push_clear a [] t = refl
  ends_in_word-push_clear a (Encoded v ∷ front) t = ends_in_word-push_clear true front t
  ends_in_word-push_clear a (Clear u ∷ front) t = ends_in_word-push_clear false front t
  ends_in_word-push_clear a (Gap u ∷ front) t = ends_in_word-push_clear false front t

  pub ends_in_word-push_gap : (a : Bool) (front : List (Part W)) (t : List ℕ) → ends_in_word a (front ++ Gap t ∷ []) ≡ false
  ends_in_word-push_gap a [] t = refl
  ends_in_word-push_gap a (Encoded v ∷ front) t = ends_in_word-push_gap true front t
  ends_in_word-push_gap a (Clear u ∷ front) t = ends_in_word-push_gap false front t
  ends_in_word-push_gap a (Gap u ∷ front) t = ends_in_word-push_gap false front t

  EndsInWord-cons : (p : Part W) (front : List (Part W)) → EndsInWord front → EndsInWord (p ∷ front)
  EndsInWord-cons p front h = (p ∷ h.0, h.1, ap (λ z. p ∷ z) h.2)

  ends-cases : (a : Bool) (front : List (Part W)) → ends_in_word a front ≡ true → ((front ≡ []) × (a ≡ true)) ⊎ EndsInWord front
  ends-cases a [] h = inl (refl, h)
  ends-cases a (Encoded w ∷ front) h =
      elim (ends-cases true front h) [ inl p ↦ inr ([], w, ap (λ z. Encoded w ∷ z) p.0) | inr q ↦ inr (EndsInWord-cons (Encoded w) front q) ]
  ends-cases a (Clear t ∷ front) h =
      elim (ends-cases false front h) [ inl p ↦ absurd (false≢true p.1) | inr q ↦ inr (EndsInWord-cons (Clear t) front q) ]
  ends-cases a (Gap t ∷ front) h =
      elim (ends-cases false front h) [ inl p ↦ absurd (false≢true p.1) | inr q ↦ inr (EndsInWord-cons (Gap t) front q) ]

  pub EndsInWord-from : (front : List (Part W)) → ends_in_word false front ≡ true → EndsInWord front
  EndsInWord-from front h = elim (ends-cases false front h) [ inl p ↦ absurd (false≢true p.1) | inr q ↦ q ]

  pub ends-from_EndsInWord : (front : List (Part W)) → EndsInWord front → ends_in_word false front ≡ true
  ends-from_EndsInWord front h = ap (ends_in_word false) h.2 ∙ ends_in_word-push_word false h.0 h.1

  -- what is read from a place on
  pub Reads-split : (a : Bool) (front rest : List (Part W)) → Reads a (front ++ rest) → Reads (ends_in_word a front) rest
  Reads-split a [] rest h = h
  Reads-split a (Encoded w ∷ front) rest h = Reads-split true front rest h.1
  Reads-split a (Clear t ∷ front) rest h = Reads-split false front rest h.4
  Reads-split a (Gap t ∷ front) rest h = Reads-split false front rest h.4

  module _ (s : List ℕ) (parts : List (Part W)) (joins : spellings x parts ≡ s) (h : Reads false parts) where
    at-place : (front rest : List (Part W)) → parts ≡ front ++ rest → Reads (ends_in_word false front) rest
    at-place front rest e = Reads-split false front rest (subst (λ z. Reads false z) e h)

    clear-place : (front rest : List (Part W)) (text : List ℕ) → parts ≡ front ++ Clear text ∷ rest → IsClearPlace x front text rest
    clear-place front rest text e =
        let r = at-place front (Clear text ∷ rest) e in
        record {
          nonempty = r.0;
          not_after_clear = λ c.
              let p : parts ≡ c.0 ++ (Clear c.1 ∷ Clear text ∷ rest) = e ∙ (ap (λ z. z ++ Clear text ∷ rest) c.2 ∙ append_assoc c.0 (Clear c.1 ∷ []) (Clear text ∷ rest)) in
              let q = at-place c.0 (Clear c.1 ∷ Clear text ∷ rest) p in
              q.2 (text, rest, refl);
          not_before_clear = r.2;
          no_gap = λ a b. r.3 (ends-from_EndsInWord front a) b;
        }

    gap-place : (front rest : List (Part W)) (text : List ℕ) → parts ≡ front ++ Gap text ∷ rest → IsGapPlace x front text rest
    gap-place front rest text e =
        let r = at-place front (Gap text ∷ rest) e in
        record { nonempty = r.1; gap = r.2; after_word = EndsInWord-from front r.0; before_word = r.3 }

    pub IsReading-from_Reads : IsReading x s parts
    IsReading-from_Reads = record {
      joins = joins;
      words = λ front rest w e. (at-place front (Encoded w ∷ rest) e).0;
      no_word = λ front rest text k e l. let r = at-place front (Clear text ∷ rest) e in NoWord-at text (spellings x rest) k r.1 l;
      clear = clear-place;
      gap = gap-place;
    }

  module _ (s : List ℕ) (parts : List (Part W)) (h : IsReading x s parts) where
    pub Reads-at : (front rest : List (Part W)) → parts ≡ front ++ rest → Reads (ends_in_word false front) rest
    Reads-at front [] e = tt
    Reads-at front (Encoded w ∷ rest) e =
        let next : parts ≡ (front ++ Encoded w ∷ []) ++ rest = e ∙ sym (append_assoc front (Encoded w ∷ []) rest) in
        let r = Reads-at (front ++ Encoded w ∷ []) rest next in
        (h.words front rest w e, subst (λ b. Reads b rest) (ends_in_word-push_word false front w) r)
    Reads-at front (Clear t ∷ rest) e =
        let next : parts ≡ (front ++ Clear t ∷ []) ++ rest = e ∙ sym (append_assoc front (Clear t ∷ []) rest) in
        let r = Reads-at (front ++ Clear t ∷ []) rest next in
        let c = h.clear front rest t e in (
          c.nonempty,
          NoWord-from t (spellings x rest) (λ k l. h.no_word front rest t k e l),
          c.not_before_clear,
          (λ a b. c.no_gap (EndsInWord-from front a) b),
          subst (λ b. Reads b rest) (ends_in_word-push_clear false front t) r,
        )
    Reads-at front (Gap t ∷ rest) e =
        let next : parts ≡ (front ++ Gap t ∷ []) ++ rest = e ∙ sym (append_assoc front (Gap t ∷ []) rest) in
        let r = Reads-at (front ++ Gap t ∷ []) rest next in
        let g = h.gap front rest t e in
        (ends-from_EndsInWord front g.after_word, g.nonempty, g.gap, g.before_word, subst (λ b. Reads b rest) (ends_in_word-push_gap false front t) r)

    pub Reads-from_IsReading : Reads false parts
    Reads-from_IsReading = Reads-at [] parts refl
