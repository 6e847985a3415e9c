-- The lines and the bytes of a written text.
use Rattle.std.proofs.Common.{◌≡◌, ℕ, ◌≤◌, ⊎_elim, Bool, true, false, None, List, [], ◌∷◌, ◌++◌, All, length, map, get_or, eqb, refl, sym, ap, subst, ◌∙◌, arith, append-nil}
use Rattle.std.specs.Prelude.{IsUtf8, IsAscii, ◌&&◌, nat_le, nat_lt, if◌then◌else◌}
use Rattle.std.specs.Option.{option_map}
use Rattle.std.specs.List.{flat_map, list_all, onto_first, AllByRecursion as ByRecursion}
use Rattle.std.proofs.lemmas.Bool.{and_parts, and_from, leb-true, ltb-true, cases_lt}
use Rattle.std.proofs.lemmas.Bool.Decides.{nat_tests}
use Rattle.std.proofs.lemmas.List.{get_or_past}
use Rattle.std.proofs.lemmas.List.Elements.{All-from_recursion}
use Rattle.qp.specs.Layout.{broken_lines}
use Rattle.enc_front.specs.Indexes.{Indexes}
use Rattle.enc_front.specs.Marks.{mark}
use Rattle.enc_io.specs.Marks.{peeked_encoding}
use Rattle.enc_io.specs.Options.{default_options}
use Rattle.enc_io.specs.Text.{chosen, stream_text}
use Rattle.words.specs.Word.{spelling}
use Rattle.word_writer.specs.Groups.{groups}
use Rattle.word_writer.specs.Plain.{is_plain, is_printable}
use Rattle.word_writer.specs.Written.{word_of, line_break, joined_words, words_of, written}
use Rattle.word_writer.proofs.CharsetText.{ascii-mark}
use Rattle.word_writer.proofs.Cutting.{plain-is, words-are}
use Rattle.word_writer.proofs.Letters.{all-append, all-at}
use Rattle.word_writer.proofs.ReadBack.{AreGroups, all-groups, same-either, word-short, word-printable}

-- a line is cut where a line end follows printable bytes
broken-other : (b : ℕ) (text : List ℕ) → eqb b 13 ≡ false → broken_lines (b ∷ text) ≡ onto_first b (broken_lines text)
unfolding broken_lines
broken-other b [] h = refl
broken-other b (c ∷ rest) h = rw h refl

printable-no_cr : (b : ℕ) → is_printable b ≡ true → eqb b 13 ≡ false
printable-no_cr b h = grind (arith, nat_tests)

cut-line : (xs rest : List ℕ) → list_all is_printable xs ≡ true → broken_lines (xs ++ 13 ∷ 10 ∷ rest) ≡ xs ∷ broken_lines rest
unfolding broken_lines
cut-line [] rest h = refl
cut-line (b ∷ xs) rest h =
    let parts = and_parts (is_printable b) (list_all is_printable xs) h in
    broken-other b (xs ++ 13 ∷ 10 ∷ rest) (printable-no_cr b parts.0) ∙ ap (onto_first b) (cut-line xs rest parts.1)

one-line : (xs : List ℕ) → list_all is_printable xs ≡ true → broken_lines xs ≡ xs ∷ []
unfolding broken_lines
one-line [] h = refl
one-line (b ∷ xs) h =
    let parts = and_parts (is_printable b) (list_all is_printable xs) h in
    broken-other b xs (printable-no_cr b parts.0) ∙ ap (onto_first b) (one-line xs parts.1)

abbrev Short : List ℕ → Type 0
Short line = length line ≤ 76

-- a line and the words behind it
lines-short : (xs : List ℕ) (gs : List (List ℕ)) → list_all is_printable xs ≡ true → length xs ≤ 76 → AreGroups gs
    → ByRecursion Short (broken_lines (xs ++ flat_map (λ w. line_break ++ spelling w) (map word_of gs)))
lines-short xs [] h few are = subst (ByRecursion Short) (sym (ap broken_lines (append-nil xs) ∙ one-line xs h)) (few, tt)
lines-short xs (g ∷ gs) h few are =
    let short = word-short g are.0 in
    let rest = (32 ∷ spelling (word_of g)) ++ flat_map (λ w. line_break ++ spelling w) (map word_of gs) in
    subst (ByRecursion Short) (sym (cut-line xs rest h))
    (few, lines-short (32 ∷ spelling (word_of g)) gs (word-printable g are.0) (omega arith) are.1)

words-lines : (gs : List (List ℕ)) → AreGroups gs → ByRecursion Short (broken_lines (joined_words (map word_of gs)))
unfolding broken_lines
words-lines [] are = (omega arith, tt)
words-lines (g ∷ gs) are = let short = word-short g are.0 in lines-short (spelling (word_of g)) gs (word-printable g are.0) (omega arith) are.1

words_of-lines : (text : List ℕ) → IsUtf8 text → ByRecursion Short (broken_lines (words_of text))
unfolding words_of
words_of-lines text utf8 = words-lines (groups text) (all-groups text utf8)

plain-parts : (text : List ℕ) → is_plain text ≡ true → (length text ≤ 76) × (list_all is_printable text ≡ true)
plain-parts text h =
    let both = and_parts (nat_le (length text) 76 && list_all is_printable text) _ h in
    let each = and_parts (nat_le (length text) 76) (list_all is_printable text) both.0 in
    (leb-true (length text) 76 each.0, each.1)

pub short-lines : (text : List ℕ) → IsUtf8 text → All Short (broken_lines (written text))
short-lines text utf8 = All-from_recursion Short (broken_lines (written text)) (by_test (is_plain text) refl)
  where
    by_test : (t : Bool) → is_plain text ≡ t → ByRecursion Short (broken_lines (written text))
    by_test true e =
        let parts = plain-parts text e in
        subst (ByRecursion Short) (sym (ap broken_lines (plain-is text e) ∙ one-line text parts.1)) (parts.0, tt)
    by_test false e = subst (λ l. ByRecursion Short (broken_lines l)) (sym (words-are text e)) (words_of-lines text utf8)

-- bytes of ASCII
abbrev is_ascii : ℕ → Bool
is_ascii b = nat_lt b 128

printable-ascii : (b : ℕ) → is_printable b ≡ true → is_ascii b ≡ true
printable-ascii b h = grind (arith, nat_tests)

all-ascii : (xs : List ℕ) → list_all is_printable xs ≡ true → list_all is_ascii xs ≡ true
all-ascii [] h = refl
all-ascii (b ∷ xs) h =
    let parts = and_parts (is_printable b) (list_all is_printable xs) h in and_from (is_ascii b) (list_all is_ascii xs) (printable-ascii b parts.0) (all-ascii xs parts.1)

later-ascii : (gs : List (List ℕ)) → AreGroups gs → list_all is_ascii (flat_map (λ w. line_break ++ spelling w) (map word_of gs)) ≡ true
later-ascii [] are = refl
later-ascii (g ∷ gs) are =
    all-append is_ascii (line_break ++ spelling (word_of g)) (flat_map (λ w. line_break ++ spelling w) (map word_of gs))
    (all-append is_ascii line_break (spelling (word_of g)) refl (all-ascii (spelling (word_of g)) (word-printable g are.0))) (later-ascii gs are.1)

words-ascii : (gs : List (List ℕ)) → AreGroups gs → list_all is_ascii (joined_words (map word_of gs)) ≡ true
words-ascii [] are = refl
words-ascii (g ∷ gs) are =
    all-append is_ascii (spelling (word_of g)) (flat_map (λ w. line_break ++ spelling w) (map word_of gs)) (all-ascii (spelling (word_of g)) (word-printable g are.0)) (later-ascii gs are.1)

words_of-ascii : (text : List ℕ) → IsUtf8 text → list_all is_ascii (words_of text) ≡ true
unfolding words_of
words_of-ascii text utf8 = words-ascii (groups text) (all-groups text utf8)

from-test : (xs : List ℕ) → list_all is_ascii xs ≡ true → IsAscii xs
from-test xs h i =
    ⊎_elim (λ inside. ltb-true (get_or xs i 0) 128 (all-at is_ascii xs i h inside))
    (λ past. let none : get_or xs i 0 ≡ 0 = get_or_past xs i 0 past in omega arith) (cases_lt i (length xs))

pub in-ascii : (text : List ℕ) → IsUtf8 text → IsAscii (written text)
in-ascii text utf8 = from-test (written text) (by_test (is_plain text) refl)
  where
    by_test : (t : Bool) → is_plain text ≡ t → list_all is_ascii (written text) ≡ true
    by_test true e = ap (list_all is_ascii) (plain-is text e) ∙ all-ascii text (plain-parts text e).1
    by_test false e = ap (list_all is_ascii) (words-are text e) ∙ words_of-ascii text utf8

pub no-mark : (text : List ℕ) → IsUtf8 text → mark (written text) ≡ None
no-mark text utf8 = ascii-mark (written text) (in-ascii text utf8)

-- a stream of bytes without a mark is its own text
peeked-none : (bytes : List ℕ) → mark bytes ≡ None → peeked_encoding bytes ≡ None
peeked-none bytes h = ap (λ m. if nat_lt (length bytes) 3 then None else option_map (λ found. found.0) m) h ∙ same-either (nat_lt (length bytes) 3) None

pub own-stream : (indexes : Indexes) (bytes : List ℕ) → mark bytes ≡ None → stream_text default_options indexes bytes ≡ bytes
unfolding stream_text chosen
own-stream indexes bytes h = rw (peeked-none bytes h) refl
