-- The words of a text, from its front on.
use Rattle.std.proofs.Common.{◌≡◌, ℕ, zero, suc, ◌<◌, ◌≤◌, Bool, true, false, List, [], ◌∷◌, ◌++◌, length, drop, map, refl, sym, ap, ◌∙◌, arith, append_assoc, append-nil, length-drop, replicate}
use Rattle.std.specs.Prelude.{IsUtf8, codes, if◌then◌else◌}
use Rattle.std.specs.List.{flat_map}
use Rattle.std.proofs.lemmas.Str.{IsUtf8-drop}
use Rattle.base64.specs.Rfc4648.{encode_symbols, padding_len}
use Rattle.words.specs.SpareBits.{alphabet}
use Rattle.words.specs.Word.{spelling}
use Rattle.word_writer.specs.Groups.{mark, begins_with_mark, with_mark_twice, group_len, front_group, first_groups, groups}
use Rattle.std.proofs.lemmas.Bool.{cond-true, cond-false}
use Rattle.word_writer.specs.Plain.{has_word_start, is_plain}
use Rattle.word_writer.specs.Written.{base64, word_of, line_break, joined_words, words_of, written}
use Rattle.word_writer.proofs.Fitting.{group_len-some, group_len-boundary}

-- what is left of a text behind the group at its front
abbrev pub behind : List ℕ → List ℕ
behind text = drop (group_len text) text

pub behind-utf8 : (text : List ℕ) → IsUtf8 text → IsUtf8 (behind text)
behind-utf8 text utf8 = IsUtf8-drop text (group_len text) utf8 (group_len-boundary text utf8)

pub behind-shorter : (text : List ℕ) → IsUtf8 text → 0 < length text → length (behind text) < length text
behind-shorter text utf8 some = let gone = group_len-some text utf8 some in omega (arith, length-drop (group_len text) text)

-- enough groups are all
enough : (n m : ℕ) (text : List ℕ) → IsUtf8 text → length text ≤ n → length text ≤ m → first_groups n text ≡ first_groups m text
unfolding first_groups
enough zero zero text utf8 le le' = refl
enough zero (suc m) [] utf8 le le' = refl
enough zero (suc m) (b ∷ text) utf8 le le' = absurd (omega arith)
enough (suc n) zero [] utf8 le le' = refl
enough (suc n) zero (b ∷ text) utf8 le le' = absurd (omega arith)
enough (suc n) (suc m) [] utf8 le le' = refl
enough (suc n) (suc m) (b ∷ text) utf8 le le' =
    let shorter = behind-shorter (b ∷ text) utf8 (omega arith) in
    ap (λ gs. front_group (b ∷ text) ∷ gs) (enough n m (behind (b ∷ text)) (behind-utf8 (b ∷ text) utf8) (omega arith) (omega arith))

-- the group at the front, and those of what is left
pub groups-step : (text : List ℕ) → IsUtf8 text → 0 < length text → groups text ≡ front_group text ∷ groups (behind text)
unfolding first_groups groups
groups-step [] utf8 some = absurd (omega arith)
groups-step (b ∷ text) utf8 some =
    let shorter = behind-shorter (b ∷ text) utf8 some in
    ap (λ gs. front_group (b ∷ text) ∷ gs) (enough (length text) (length (behind (b ∷ text))) (behind (b ∷ text)) (behind-utf8 (b ∷ text) utf8) (omega arith) (omega arith))

-- the words of a text, each behind a line break
unfoldable pub later_words : List ℕ → List ℕ
later_words text = flat_map (λ w. line_break ++ spelling w) (map word_of (groups text))

pub later-none : (text : List ℕ) → length text ≡ 0 → later_words text ≡ []
unfolding later_words groups first_groups
later-none [] e = refl
later-none (b ∷ text) e = absurd (omega arith)

pub words-step : (text : List ℕ) → IsUtf8 text → 0 < length text → words_of text ≡ spelling (word_of (front_group text)) ++ later_words (behind text)
unfolding words_of later_words
words-step text utf8 some = ap (λ gs. joined_words (map word_of gs)) (groups-step text utf8 some)

later-step : (text : List ℕ) → IsUtf8 text → 0 < length text
    → later_words text ≡ (line_break ++ spelling (word_of (front_group text))) ++ later_words (behind text)
unfolding later_words
later-step text utf8 some = ap (λ gs. flat_map (λ w. line_break ++ spelling w) (map word_of gs)) (groups-step text utf8 some)

-- the first word is written
pub first-written : (text rest old new : List ℕ) → IsUtf8 text → 0 < length text → new ≡ old ++ spelling (word_of (front_group text)) → rest ≡ behind text
    → new ++ later_words rest ≡ old ++ words_of text
first-written text rest old new utf8 some e r =
    ap (λ l. l ++ later_words rest) e ∙ append_assoc old (spelling (word_of (front_group text))) (later_words rest)
    ∙ ap (λ l. old ++ (spelling (word_of (front_group text)) ++ later_words l)) r ∙ ap (λ l. old ++ l) (sym (words-step text utf8 some))

-- a further word is written
pub later-written : (text rest old broken new whole : List ℕ) → IsUtf8 text → 0 < length text → broken ≡ old ++ line_break
    → new ≡ broken ++ spelling (word_of (front_group text)) → rest ≡ behind text
    → old ++ later_words text ≡ whole → new ++ later_words rest ≡ whole
later-written text rest old broken new whole utf8 some b e r h =
    let word = spelling (word_of (front_group text)) in
    ap (λ l. new ++ later_words l) r
    ∙ ap (λ l. l ++ later_words (behind text)) (e ∙ ap (λ l. l ++ word) b)
    ∙ ap (λ l. l ++ later_words (behind text)) (append_assoc old line_break word)
    ∙ append_assoc old (line_break ++ word) (later_words (behind text))
    ∙ ap (λ l. old ++ l) (sym (later-step text utf8 some))
    ∙ h

-- the mark's letters, and those of what follows it
mark-first : (group : List ℕ) → base64 (mark ++ group) ≡ base64 mark ++ base64 group
unfolding encode_symbols
mark-first group = ap (λ n. (base64 mark ++ encode_symbols alphabet group) ++ replicate n 61) more ∙ append_assoc (base64 mark) (encode_symbols alphabet group) (replicate (padding_len (length group)) 61)
  where
    more : padding_len (suc (suc (suc (length group)))) ≡ padding_len (length group)
    more = omega arith

pub base64-written : (group old marked new : List ℕ) → marked ≡ old ++ (if begins_with_mark group then base64 mark else []) → new ≡ marked ++ base64 group
    → new ≡ old ++ base64 (with_mark_twice group)
base64-written group old marked new e f = f ∙ ap (λ l. l ++ base64 group) e ∙ by_test (begins_with_mark group)
  where
    by_test : (t : Bool) → (old ++ (if t then base64 mark else [])) ++ base64 group ≡ old ++ base64 (if t then mark ++ group else group)
    by_test true = append_assoc old (base64 mark) (base64 group) ∙ ap (λ l. old ++ l) (sym (mark-first group))
    by_test false = ap (λ l. l ++ base64 group) (append-nil old)

-- a word is what stands before its text, the text, and what stands behind
pub word-written : (group old started texted new : List ℕ) → started ≡ old ++ codes "=?UTF-8?B?" → texted ≡ started ++ base64 (with_mark_twice group)
    → new ≡ texted ++ codes "?=" → new ≡ old ++ spelling (word_of group)
word-written group old started texted new s t e =
    e ∙ ap (λ l. l ++ codes "?=") (t ∙ ap (λ l. l ++ base64 (with_mark_twice group)) s)
    ∙ ap (λ l. l ++ codes "?=") (append_assoc old (codes "=?UTF-8?B?") (base64 (with_mark_twice group)))
    ∙ append_assoc old (codes "=?UTF-8?B?" ++ base64 (with_mark_twice group)) (codes "?=")

-- a plain text and its words
pub plain-is : (text : List ℕ) → is_plain text ≡ true → written text ≡ text
unfolding written
plain-is text h = cond-true (is_plain text) text (words_of text) h

pub words-are : (text : List ℕ) → is_plain text ≡ false → written text ≡ words_of text
unfolding written
words-are text h = cond-false (is_plain text) text (words_of text) h

pub some-text : (text : List ℕ) → is_plain text ≡ false → 0 < length text
unfolding has_word_start
some-text [] h = absurd cc
some-text (b ∷ text) h = omega arith
