-- The parts of a value, word by word.
use Rattle.std.proofs.Common.{◌≡◌, ℕ, ◌<◌, Bool, true, false, List, [], ◌∷◌, ◌++◌, length, map, refl, sym, ap, ◌∙◌, arith, append_assoc, length-append}
use Rattle.std.proofs.lemmas.List.{map-append}
use Rattle.enc_front.specs.Indexes.{Indexes}
use Rattle.people.specs.declared.word.WordSlice.{WordSlice}
use Rattle.people.specs.Parts.{people_syntax}
use Rattle.people.specs.Reading.{Part, Encoded}
use Rattle.people.specs.Slices.{Seen, seen, given, seen_part, seen_text, NoWordBefore, FindsFirst}
use Rattle.people.specs.Word.{word_at}
use Rattle.people.proofs.FirstWords.{text_parts, parts_after, parts-word, parts-end}
use Rattle.people.proofs.WordLemmas.{is_syntax, spelling-long}

module _ (T : Indexes) where
  seen-parts : (a : Bool) (text : List ℕ) → map seen_part (text_parts (people_syntax T) a text) ≡ seen_text a text
  seen-parts a [] = refl
  seen-parts a (b ∷ text) = refl

  -- what is behind the first word is shorter
  pub shorter : (s before : List ℕ) (found : WordSlice) (after old new : List ℕ) → FindsFirst (word_at T) s before found after old new → length after < length s
  shorter s before found after old new f =
      omega (arith, ap length f.whole, length-append before (f.word.spelling ++ after), length-append f.word.spelling after, spelling-long T (f.word.spelling ++ after) f.word f.begins)

  -- a turn of the loop over the words: the parts so far, and those of what is left
  pub turn : (a : Bool) (s before : List ℕ) (found : WordSlice) (after old new : List ℕ) (sofar with_text with_word whole : List (Part Seen)) → FindsFirst (word_at T) s before found after old new
      → with_text ≡ sofar ++ seen_text a before → with_word ≡ with_text ++ Encoded (given found) ∷ [] → sofar ++ map seen_part (parts_after (people_syntax T) a s) ≡ whole
      → with_word ++ map seen_part (parts_after (people_syntax T) true after) ≡ whole
  turn a s before found after old new sofar with_text with_word whole f t v e =
      let later : List (Part Seen) = map seen_part (parts_after (people_syntax T) true after) in
      let one : List (Part Seen) = Encoded (given found) ∷ [] in
      let word : one ≡ Encoded (seen f.word) ∷ [] = ap (λ z. Encoded z ∷ []) f.seen in
      let split : map seen_part (parts_after (people_syntax T) a s) ≡ seen_text a before ++ Encoded (seen f.word) ∷ later =
      ap (map seen_part) (parts-word (people_syntax T) (is_syntax T) a s before f.word after f.whole f.begins f.none_before) ∙
      (map-append seen_part (text_parts (people_syntax T) a before) (Encoded f.word ∷ parts_after (people_syntax T) true after) ∙
      ap (λ z. z ++ Encoded (seen f.word) ∷ later) (seen-parts a before)) in
      ap (λ z. z ++ later) (v ∙ (λ i. t i ++ word i)) ∙
      (append_assoc (sofar ++ seen_text a before) (Encoded (seen f.word) ∷ []) later ∙ (append_assoc sofar (seen_text a before) (Encoded (seen f.word) ∷ later) ∙
      (ap (λ z. sofar ++ z) (sym split) ∙ e)))

  -- the end: no word is left
  pub end : (a : Bool) (s : List ℕ) (sofar all whole : List (Part Seen)) → NoWordBefore (word_at T) s (length s) → all ≡ sofar ++ seen_text false s
      → sofar ++ map seen_part (parts_after (people_syntax T) a s) ≡ whole → all ≡ whole
  end a s sofar all whole none e h =
      e ∙ (ap (λ z. sofar ++ z) (sym (seen-parts false s) ∙ ap (map seen_part) (sym (parts-end (people_syntax T) a s none))) ∙ h)
