-- Words of headers keep what a reading asks of words and gaps.
use Rattle.std.proofs.Common.{◌≡◌, ℕ, ◌+◌, ◌-◌, ◌<◌, ◌≤◌, inl, inr, true, false, ◌==◌, ◌&&◌, cond, Option, Some, None, List, [], ◌∷◌, ◌++◌, length, get_or, take, drop, refl, sym, ap, ◌∙◌, subst, arith, eq-eqb, below_more}
use Rattle.std.specs.Option.{option_map}
use Rattle.std.specs.Prelude.{option_and_then}
use Rattle.std.proofs.lemmas.Bool.{or_cases, eqb-true, ne_eqb, cases_lt}
use Rattle.std.proofs.lemmas.List.{append-nil, take_at, drop_at, drop_more, drop-drop, get_or-drop, length-drop, length-append, length-take-le, take-append-drop, take_rest}
use Rattle.enc_front.specs.declared.encoding.Encoding.{Encoding}
use Rattle.enc_front.specs.Indexes.{Indexes}
use Rattle.people.specs.Frame.{Frame, frame_spelling, behind_start, frame_at}
use Rattle.people.specs.Names.{named}
use Rattle.people.specs.Parts.{people_syntax}
use Rattle.people.specs.Reading.{IsSyntax}
use Rattle.people.specs.declared.word.WordSlice.{WordSlice}
use Rattle.people.specs.Slices.{NoWordBefore, seen, given, octets_of, Finds, FindsFirst}
use Rattle.people.specs.Unfolded.{is_blank}
use Rattle.people.specs.Word.{Word, frame_octets, resolved, word_of, word_at}
use Rattle.people.proofs.FrameLemmas.{none-start, frame_at-spells}

-- a word at the front of a list, and what is behind it
abbrev pub Spells : List ℕ → Word → Type 0
Spells s w = (f : Frame) × (rest : List ℕ) × (w.spelling ≡ frame_spelling f) × (s ≡ frame_spelling f ++ rest)

module _ (T : Indexes) where
  pub word-none : (s : List ℕ) → frame_at s ≡ None → word_at T s ≡ None
  unfolding word_at
  word-none s e = ap (option_and_then (λ (found : Frame × List ℕ). word_of T found.0)) e

  pub word-some : (s : List ℕ) (found : Frame × List ℕ) → frame_at s ≡ Some found → word_at T s ≡ word_of T found.0
  unfolding word_at
  word-some s found e = ap (option_and_then (λ (found : Frame × List ℕ). word_of T found.0)) e

  of-spelling : (f : Frame) (w : Word) (o : Option (Encoding × List ℕ))
      → option_map (λ (r : Encoding × List ℕ). let v : Word = record { encoding = r.0; octets = r.1; spelling = frame_spelling f } in v) o ≡ Some w → w.spelling ≡ frame_spelling f
  of-spelling f w None e = absurd (cc)
  of-spelling f w (Some r) e =
      let v : Word = record { encoding = r.0; octets = r.1; spelling = frame_spelling f } in
      let same : v ≡ w = cc in sym (ap (λ (z : Word). z.spelling) same)

  pub spells : (s : List ℕ) (w : Word) → word_at T s ≡ Some w → Spells s w
  spells s w e = by_frame (frame_at s) refl
    where
      by_frame : (o : Option (Frame × List ℕ)) → frame_at s ≡ o → Spells s w
      by_frame None h = let n = word-none s h in absurd (cc)
      by_frame (Some found) h =
          let is : word_of T found.0 ≡ Some w = sym (word-some s found h) ∙ e in
          (found.0, found.1, of-spelling found.0 w (resolved (named found.0.charset T) found.0.text (frame_octets found.0)) is, frame_at-spells s found h)

  split : (s : List ℕ) (w : Word) → word_at T s ≡ Some w → s ≡ w.spelling ++ drop (length w.spelling) s
  split s w e =
      let p = spells s w e in
      let whole : s ≡ w.spelling ++ p.1 = p.3 ∙ ap (λ z. z ++ p.1) (sym p.2) in
      whole ∙ ap (λ z. w.spelling ++ z) (sym (drop_at w.spelling p.1 (length w.spelling) refl) ∙ ap (drop (length w.spelling)) (sym whole))

  frame-long : (f : Frame) → 0 < length (frame_spelling f)
  frame-long f = omega arith

  pub spelling-long : (s : List ℕ) (w : Word) → word_at T s ≡ Some w → 0 < length w.spelling
  spelling-long s w e = let p = spells s w e in subst (λ (z : List ℕ). 0 < length z) (sym p.2) (frame-long p.0)

  -- a word begins with `=` alone
  pub no_word-other : (b : ℕ) (rest : List ℕ) → (b == 61) ≡ false → word_at T (b ∷ rest) ≡ None
  unfolding behind_start
  no_word-other b [] e = word-none (b ∷ []) (none-start (b ∷ []) refl)
  no_word-other b (c ∷ rest) e = word-none (b ∷ c ∷ rest) (none-start (b ∷ c ∷ rest) (ap (λ t. cond (t && c == 63) (Some rest) None) e))

  blank-other : (b : ℕ) → is_blank b ≡ true → (b == 61) ≡ false
  blank-other b e = elim (or_cases (b == 32) (b == 9) e) [
    | inl p ↦ ap (λ z. z == 61) (eqb-true b 32 p)
    | inr q ↦ ap (λ z. z == 61) (eqb-true b 9 q)
  ]

  pub is_syntax : IsSyntax (people_syntax T)
  is_syntax = record {
    spelled = split;
    nonempty = spelling-long;
    no_gap = λ b bs e. no_word-other b bs (blank-other b e);
  }

  -- no word begins where no `=` stands
  pub no_word-skipped : (s : List ℕ) (at : ℕ) (hay : List ℕ) (m : ℕ) → hay ≡ drop at s → at + m ≤ length s → NoWordBefore (word_at T) s at
      → ((k : ℕ) → 0 ≤ k → k < m → ¬ ((get_or hay k 0 == 61) ≡ true)) → NoWordBefore (word_at T) s (at + m)
  no_word-skipped s at hay m h within none quiet k l =
      elim (cases_lt k at) [
        | inl before ↦ none k before
        | inr after ↦
            let j : ℕ = k - at in
            let place : at + j ≡ k = omega arith in
            let byte : get_or hay j 0 ≡ get_or s k 0 = ap (λ z. get_or z j 0) h ∙ (get_or-drop at s j 0 ∙ ap (λ n. get_or s n 0) place) in
            ap (word_at T) (drop_more s k 0 (omega arith))
            ∙ no_word-other (get_or s k 0) (drop (k + 1) s) (ne_eqb (get_or s k 0) 61 (λ e. quiet j (omega arith) (omega arith) (eq-eqb (get_or hay j 0) 61 (byte ∙ e))))
      ]

  -- the place of an `=` that was found behind this one
  pub skipped-within : (s : List ℕ) (at m : ℕ) → at ≤ length s → m < length (take (length s - at) (drop at s)) → at + m < length s
  skipped-within s at m h l = omega (arith, length-drop at s, ap length (take_rest s at))

  -- no word begins before this place, nor at it
  pub no_word-next : (s : List ℕ) (n : ℕ) → NoWordBefore (word_at T) s n → word_at T (drop n s) ≡ None → NoWordBefore (word_at T) s (n + 1)
  no_word-next s n none here = below_more (λ k. word_at T (drop k s) ≡ None) n none here

  -- the word at a place stands within the list
  pub word-within : (s : List ℕ) (n : ℕ) (w : Word) → word_at T (drop n s) ≡ Some w → n + length w.spelling ≤ length s
  word-within s n w e =
      omega (arith, ap length (split (drop n s) w e), length-append w.spelling (drop (length w.spelling) (drop n s)), length-drop n s, spelling-long (drop n s) w e)

  -- the first word stands whole behind what is before it
  pub first-whole : (s : List ℕ) (n : ℕ) (w : Word) → word_at T (drop n s) ≡ Some w → s ≡ take n s ++ (w.spelling ++ drop (n + length w.spelling) s)
  first-whole s n w e =
      sym (take-append-drop n s) ∙ ap (λ z. take n s ++ z) (split (drop n s) w e ∙ ap (λ z. w.spelling ++ z) (drop-drop (length w.spelling) n s))

  pub first-begins : (s : List ℕ) (n : ℕ) (w : Word) → word_at T (drop n s) ≡ Some w → word_at T (w.spelling ++ drop (n + length w.spelling) s) ≡ Some w
  first-begins s n w e =
      ap (word_at T) (sym (split (drop n s) w e ∙ ap (λ z. w.spelling ++ z) (drop-drop (length w.spelling) n s))) ∙ e

  -- a frame that can't be read, and one that can
  pub word_of-none : (f : Frame) → resolved (named f.charset T) f.text (frame_octets f) ≡ None → word_of T f ≡ None
  word_of-none f e = ap (option_map (λ (r : Encoding × List ℕ). let v : Word = record { encoding = r.0; octets = r.1; spelling = frame_spelling f } in v)) e

  pub word_of-some : (f : Frame) (r : Encoding × List ℕ) → resolved (named f.charset T) f.text (frame_octets f) ≡ Some r
      → word_of T f ≡ Some (record { encoding = r.0; octets = r.1; spelling = frame_spelling f })
  word_of-some f r e = ap (option_map (λ (q : Encoding × List ℕ). let v : Word = record { encoding = q.0; octets = q.1; spelling = frame_spelling f } in v)) e

-- a program that finds no word, and one that finds one
pub finds-none : (word : Option Word) (old new : List ℕ) → word ≡ None → new ≡ old → Finds word old new None
finds-none word old new e n = record {
  seen = ap (option_map seen) (sym e);
  octets = n ∙ (sym (append-nil old) ∙ ap (λ o. old ++ octets_of o) (sym e));
}

pub finds-some : (word : Option Word) (w : Word) (old new : List ℕ) (found : WordSlice) → word ≡ Some w → given found ≡ seen w → new ≡ old ++ w.octets → Finds word old new (Some found)
finds-some word w old new found e g n = record {
  seen = ap (λ z. Some z) g ∙ ap (option_map seen) (sym e);
  octets = n ∙ ap (λ o. old ++ octets_of o) (sym e);
}

-- the octets that were appended
pub appended : (items old v : List ℕ) (start : ℕ) → items ≡ old ++ v → start ≡ length old → take (length items - start) (drop start items) ≡ v
appended items old v start e n = take_rest items start ∙ (ap (drop start) e ∙ drop_at old v start (sym n))

pub kept : (items old v : List ℕ) (start : ℕ) → items ≡ old ++ v → start ≡ length old → take start items ≡ old
kept items old v start e n = ap (take start) e ∙ take_at old v start (sym n)

pub removed : (items old v : List ℕ) (start mark : ℕ) → items ≡ old ++ v → start ≡ length old → take start items ++ drop (start + mark) items ≡ old ++ drop mark v
removed items old v start mark e n =
    λ i. kept items old v start e n i ++ (sym (drop-drop mark start items) ∙ ap (drop mark) (ap (drop start) e ∙ drop_at old v start (sym n))) i

-- what a program that finds no word says, and one that finds one
pub finds-none-word : (word : Option Word) (old new : List ℕ) → Finds word old new None → (word ≡ None) × (new ≡ old)
finds-none-word None old new f = (refl, f.octets ∙ append-nil old)
finds-none-word (Some w) old new f = let e = f.seen in absurd (cc)

pub finds-some-word : (word : Option Word) (old new : List ℕ) (found : WordSlice) → Finds word old new (Some found)
    → (w : Word) × (word ≡ Some w) × (given found ≡ seen w) × (new ≡ old ++ w.octets)
finds-some-word None old new found f = let e = f.seen in absurd (cc)
finds-some-word (Some w) old new found f =
    let e = f.seen in let same : given found ≡ seen w = cc in (w, refl, same, f.octets)

-- the first word at a place, and what is behind it
pub finds-first : (T : Indexes) (s : List ℕ) (n : ℕ) (w : Word) (found : WordSlice) (after old new : List ℕ) → word_at T (drop n s) ≡ Some w → given found ≡ seen w → NoWordBefore (word_at T) s n → n ≤ length s
    → new ≡ old ++ w.octets → drop (n + length w.spelling) s ≡ after → FindsFirst (word_at T) s (take n s) found after old new
finds-first T s n w found after old new e g none l o a = record {
  word = w;
  seen = g;
  whole = first-whole T s n w e ∙ ap (λ z. take n s ++ (w.spelling ++ z)) a;
  begins = ap (λ z. word_at T (w.spelling ++ z)) (sym a) ∙ first-begins T s n w e;
  none_before = subst (NoWordBefore (word_at T) s) (sym (length-take-le n s l)) none;
  octets = o;
}
