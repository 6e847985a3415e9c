-- A written text is read back.
use Rattle.std.proofs.Common.{◌≡◌, ℕ, zero, suc, ◌≤◌, inl, inr, Bool, true, false, Option, Some, None, Ok, Err, List, [], ◌∷◌, ◌++◌, length, map, take, refl, sym, ap, subst, ◌∙◌, arith, append_assoc, append-nil, length-append, length-take}
use Rattle.std.specs.Prelude.{◌⊎◌, IsSomeAnd, IsUtf8, ⊤, codes, not, ◌||◌, nat_eq, nat_lt, if◌then◌else◌}
use Rattle.std.specs.List.{flat_map, list_all, starts_with}
use Rattle.std.specs.Option.{option_or}
use Rattle.std.specs.Cmp.Lexicographic.{pointwise}
use Rattle.std.proofs.lemmas.Bool.{and_parts, cond-false, false_from_ne_true}
use Rattle.std.proofs.lemmas.Bool.Decides.{nat_tests}
use Rattle.std.proofs.lemmas.List.{take-append-drop, take-take}
use Rattle.std.proofs.lemmas.List.Sums.{AllPass-from_list_all}
use Rattle.std.proofs.lemmas.Slice.Eq.{bytes_eq-Decides}
use Rattle.std.proofs.lemmas.Str.{IsUtf8-take}
use Rattle.enc_front.specs.Charset.{charset_text}
use Rattle.enc_front.specs.Indexes.{Indexes}
use Rattle.words.specs.declared.strategy.RecoverStrategy.{RecoverStrategy}
use Rattle.words.specs.declared.strategy.RecoverStrategy.TheVariants.{Decode, Skip, Abort}
use Rattle.words.specs.declared.decoder.Error.{Error}
use Rattle.words.specs.declared.decoder.Error.TheVariants.{Memory}
use Rattle.words.specs.Fault.{HeaderFault, fault_of}
use Rattle.words.specs.Header.{Text, clear_text, encoding_fault, header, length_fault, part_encoding_fault, part_text, parts_text, shown_value, unless_fault, word_text}
use Rattle.words.specs.Joined.{join_lists, then_list}
use Rattle.words.specs.Reading.{Part, Encoded, Clear, Gap, spellings, reading_of, is_gap_byte}
use Rattle.words.specs.Tokens.{is_too_long, is_skipped, long_words, too_long_words}
use Rattle.words.specs.Word.{Word, IsWord, spelling, word_at}
use Rattle.words.proofs.ByParts.{NoWord, Reads}
use Rattle.words.proofs.Found.{none-prefix}
use Rattle.words.proofs.Parsing.{clear-text}
use Rattle.words.proofs.Unique.{reading_of-spellings}
use Rattle.words.proofs.Words.{IsWord-from_test, StartsWith-from_starts, starts-from_StartsWith}
use Rattle.word_writer.specs.Groups.{mark, begins_with_mark, with_mark_twice, group_room, group_len, front_group, first_groups, groups}
use Rattle.word_writer.specs.Plain.{has_word_start, is_plain, is_printable}
use Rattle.word_writer.specs.Written.{base64, word_of, line_break, joined_words, words_of, written}
use Rattle.word_writer.proofs.Cutting.{behind, behind-utf8, behind-shorter, plain-is, words-are}
use Rattle.word_writer.proofs.CharsetText.{group-shown}
use Rattle.word_writer.proofs.Fitting.{fitting-le, group_len-boundary}
use Rattle.word_writer.proofs.Letters.{all-append, base64-length, base64-printable, base64-text, base64-value}
use Rattle.word_writer.proofs.Utf8Text.{AreSmall, utf8-small, small-append}

-- a group of whole characters whose encoded form fits
pub record IsGroup (group : List ℕ) : Type 0 where
  pub utf8 : IsUtf8 group
  pub fits : length (with_mark_twice group) ≤ 45

abbrev pub AreGroups : List (List ℕ) → Type 0
AreGroups [] = ⊤
AreGroups (group ∷ rest) = IsGroup group × AreGroups rest

-- a front that begins with the mark is one of a text that does
mark-front : (text : List ℕ) (n : ℕ) → begins_with_mark (take n text) ≡ true → begins_with_mark text ≡ true
mark-front text n h =
    let front : take 3 (take n text) ≡ mark = StartsWith-from_starts (take n text) mark h in
    let whole = ap length front in
    let long : 3 ≤ n = omega (arith, length-take 3 (take n text), length-take n text) in
    starts-from_StartsWith text mark (sym (take-take 3 n text long) ∙ front)

front-fits : (text : List ℕ) → length (with_mark_twice (front_group text)) ≤ 45
unfolding group_len
front-fits text = by_tests (begins_with_mark (front_group text)) (begins_with_mark text) (mark-front text (group_len text))
    (omega (arith, length-take (group_len text) text)) (fitting-le text (group_room text))
  where
    by_tests : (t u : Bool) → (t ≡ true → u ≡ true) → length (front_group text) ≤ group_len text → group_len text ≤ (if u then 42 else 45)
        → length (if t then mark ++ front_group text else front_group text) ≤ 45
    by_tests true true same len few = omega arith
    by_tests true false same len few = absurd (let bad = same refl in cc)
    by_tests false true same len few = omega arith
    by_tests false false same len few = omega arith

front-is : (text : List ℕ) → IsUtf8 text → IsGroup (front_group text)
front-is text utf8 = record { utf8 = IsUtf8-take text (group_len text) utf8 (group_len-boundary text utf8); fits = front-fits text }

groups-are : (n : ℕ) (text : List ℕ) → IsUtf8 text → AreGroups (first_groups n text)
unfolding first_groups
groups-are zero text utf8 = tt
groups-are (suc n) [] utf8 = tt
groups-are (suc n) (b ∷ text) utf8 = (front-is (b ∷ text) utf8, groups-are n (behind (b ∷ text)) (behind-utf8 (b ∷ text) utf8))

-- groups one after another
abbrev pub together : List (List ℕ) → List ℕ
together gs = flat_map (λ (g : List ℕ). g) gs

groups-join : (n : ℕ) (text : List ℕ) → IsUtf8 text → length text ≤ n → together (first_groups n text) ≡ text
unfolding first_groups
groups-join zero [] utf8 le = refl
groups-join zero (b ∷ text) utf8 le = absurd (omega arith)
groups-join (suc n) [] utf8 le = refl
groups-join (suc n) (b ∷ text) utf8 le =
    let shorter = behind-shorter (b ∷ text) utf8 (omega arith) in
    ap (λ l. front_group (b ∷ text) ++ l) (groups-join n (behind (b ∷ text)) (behind-utf8 (b ∷ text) utf8) (omega arith)) ∙ take-append-drop (group_len (b ∷ text)) (b ∷ text)

pub all-groups : (text : List ℕ) → IsUtf8 text → AreGroups (groups text)
unfolding groups
all-groups text utf8 = groups-are (length text) text utf8

all-join : (text : List ℕ) → IsUtf8 text → together (groups text) ≡ text
unfolding groups
all-join text utf8 = groups-join (length text) text utf8 (omega arith)

-- the word of a group
module _ (group : List ℕ) (is : IsGroup group) where
  encoded-small : AreSmall (with_mark_twice group)
  encoded-small = by_test (begins_with_mark group)
    where
      by_test : (t : Bool) → AreSmall (if t then mark ++ group else group)
      by_test true = small-append mark group (omega arith, (omega arith, (omega arith, tt))) (utf8-small group is.utf8)
      by_test false = utf8-small group is.utf8

  pub word-is : IsWord (word_of group)
  word-is = IsWord-from_test (word_of group) (base64-text (with_mark_twice group) encoded-small)

  pub word-short : length (spelling (word_of group)) ≤ 72
  word-short =
      let fits = is.fits in
      omega (arith, base64-length (with_mark_twice group), length-append (codes "=?UTF-8?B?" ++ base64 (with_mark_twice group)) (codes "?="), length-append (codes "=?UTF-8?B?") (base64 (with_mark_twice group)))

  pub word-printable : list_all is_printable (spelling (word_of group)) ≡ true
  word-printable =
      all-append is_printable (codes "=?UTF-8?B?" ++ base64 (with_mark_twice group)) (codes "?=")
      (all-append is_printable (codes "=?UTF-8?B?") (base64 (with_mark_twice group)) refl (base64-printable (with_mark_twice group) encoded-small)) refl

  not-long : is_too_long (word_of group) ≡ false
  not-long = by_short (length (spelling (word_of group))) word-short
    where
      by_short : (n : ℕ) → n ≤ 72 → nat_lt 75 n ≡ false
      by_short n le = grind (arith, nat_tests)

  not-skipped : (strategy : RecoverStrategy) → is_skipped strategy (word_of group) ≡ false
  not-skipped Decode = refl
  not-skipped Skip = not-long
  not-skipped Abort = refl

  part-shown : (strategy : RecoverStrategy) (indexes : Indexes) → part_text strategy indexes (Encoded (word_of group)) ≡ Ok group
  part-shown strategy indexes =
      cond-false (is_skipped strategy (word_of group)) (clear_text (spelling (word_of group))) (word_text indexes (word_of group)) (not-skipped strategy)
      ∙ ap (shown_value (charset_text (codes "UTF-8") indexes)) (base64-value (with_mark_twice group) encoded-small)
      ∙ ap Ok (group-shown indexes group is.utf8)

-- words with gaps between them, as parts
abbrev pub later_parts : List Word → List Part
later_parts [] = []
later_parts (w ∷ ws) = Gap line_break ∷ Encoded w ∷ later_parts ws

abbrev pub parts_of : List Word → List Part
parts_of [] = []
parts_of (w ∷ ws) = Encoded w ∷ later_parts ws

later-spelled : (ws : List Word) → spellings (later_parts ws) ≡ flat_map (λ w. line_break ++ spelling w) ws
later-spelled [] = refl
later-spelled (w ∷ ws) = ap (λ l. line_break ++ (spelling w ++ l)) (later-spelled ws) ∙ sym (append_assoc line_break (spelling w) (flat_map (λ v. line_break ++ spelling v) ws))

parts-spelled : (ws : List Word) → spellings (parts_of ws) ≡ joined_words ws
parts-spelled [] = refl
parts-spelled (w ∷ ws) = ap (λ l. spelling w ++ l) (later-spelled ws)

later-read : (gs : List (List ℕ)) → AreGroups gs → Reads true (later_parts (map word_of gs))
later-read [] are = tt
later-read (g ∷ gs) are =
    (refl, omega arith, AllPass-from_list_all is_gap_byte line_break refl, (word_of g, later_parts (map word_of gs), refl), (word-is g are.0, later-read gs are.1))

parts-read : (gs : List (List ℕ)) → AreGroups gs → Reads false (parts_of (map word_of gs))
parts-read [] are = tt
parts-read (g ∷ gs) are = (word-is g are.0, later-read gs are.1)

pub reading-is : (gs : List (List ℕ)) → AreGroups gs → reading_of (joined_words (map word_of gs)) ≡ parts_of (map word_of gs)
reading-is gs are = ap reading_of (sym (parts-spelled (map word_of gs))) ∙ reading_of-spellings (parts_of (map word_of gs)) (parts-read gs are)

-- no word is too long
later-short : (gs : List (List ℕ)) → AreGroups gs → long_words (later_parts (map word_of gs)) ≡ []
later-short [] are = refl
later-short (g ∷ gs) are =
    ap (λ t. (if t then word_of g ∷ [] else []) ++ long_words (later_parts (map word_of gs))) (not-long g are.0) ∙ later-short gs are.1

pub all-short : (gs : List (List ℕ)) → AreGroups gs → long_words (parts_of (map word_of gs)) ≡ []
all-short [] are = refl
all-short (g ∷ gs) are = later-short (g ∷ gs) are

none-too-long : (strategy : RecoverStrategy) (parts : List Part) → long_words parts ≡ [] → too_long_words strategy parts ≡ []
none-too-long Decode parts h = refl
none-too-long Skip parts h = refl
none-too-long Abort parts h = h

pub same-either : {A : Type 0} (t : Bool) (a : A) → (if t then a else a) ≡ a
same-either true a = refl
same-either false a = refl

-- each encoding field names an encoding
field-fine : (strategy : RecoverStrategy) (g : List ℕ) → part_encoding_fault strategy (Encoded (word_of g)) ≡ None
field-fine strategy g = same-either (is_skipped strategy (word_of g)) None

later-fine : (strategy : RecoverStrategy) (gs : List (List ℕ)) → encoding_fault strategy (later_parts (map word_of gs)) ≡ None
later-fine strategy [] = refl
later-fine strategy (g ∷ gs) = ap (λ o. option_or o (encoding_fault strategy (later_parts (map word_of gs)))) (field-fine strategy g) ∙ later-fine strategy gs

all-fine : (strategy : RecoverStrategy) (gs : List (List ℕ)) → encoding_fault strategy (parts_of (map word_of gs)) ≡ None
all-fine strategy [] = refl
all-fine strategy (g ∷ gs) = later-fine strategy (g ∷ gs)

-- the texts of the words are the groups
module _ (strategy : RecoverStrategy) (indexes : Indexes) where
  abbrev texts : List Part → Text
  texts parts = join_lists (map (part_text strategy indexes) parts)

  later-texts : (gs : List (List ℕ)) → AreGroups gs → texts (later_parts (map word_of gs)) ≡ Ok (together gs)
  later-texts [] are = refl
  later-texts (g ∷ gs) are =
      ap (λ (r : Text). then_list (Ok []) (then_list r (texts (later_parts (map word_of gs))))) (part-shown g are.0 strategy indexes)
      ∙ ap (λ (r : Text). then_list (Ok []) (then_list (Ok g) r)) (later-texts gs are.1)

  all-texts : (gs : List (List ℕ)) → AreGroups gs → texts (parts_of (map word_of gs)) ≡ Ok (together gs)
  all-texts [] are = refl
  all-texts (g ∷ gs) are =
      ap (λ (r : Text). then_list r (texts (later_parts (map word_of gs)))) (part-shown g are.0 strategy indexes)
      ∙ ap (λ (r : Text). then_list (Ok g) r) (later-texts gs are.1)

  parts-shown : (parts : List Part) (text : List ℕ) → long_words parts ≡ [] → encoding_fault strategy parts ≡ None → texts parts ≡ Ok text
      → parts_text strategy indexes parts ≡ Ok text
  parts-shown parts text short fine shown =
      ap (λ ws. unless_fault (length_fault ws) (unless_fault (encoding_fault strategy parts) (texts parts))) (none-too-long strategy parts short)
      ∙ ap (λ o. unless_fault o (texts parts)) fine ∙ shown

  words-shown : (text : List ℕ) → IsUtf8 text → header strategy indexes (words_of text) ≡ Ok text
  unfolding header words_of
  words-shown text utf8 =
      let are = all-groups text utf8 in
      ap (parts_text strategy indexes) (reading-is (groups text) are)
      ∙ parts-shown (parts_of (map word_of (groups text))) (together (groups text)) (all-short (groups text) are) (all-fine strategy (groups text)) (all-texts (groups text) are)
      ∙ ap Ok (all-join text utf8)

-- where no word begins
or_none : (x y : Bool) → (x || y) ≡ false → (x ≡ false) × (y ≡ false)
or_none true y h = absurd cc
or_none false y h = (refl, h)

other-way : (s : List ℕ) → starts_with nat_eq s (codes "=?") ≡ false → pointwise nat_eq (take 2 s) (61 ∷ 63 ∷ []) ≡ false
other-way s h =
    false_from_ne_true (pointwise nat_eq (take 2 s) (61 ∷ 63 ∷ [])) (λ e.
    let yes : pointwise nat_eq (61 ∷ 63 ∷ []) (take 2 s) ≡ true = (bytes_eq-Decides (61 ∷ 63 ∷ []) (take 2 s)).1 (sym ((bytes_eq-Decides (take 2 s) (61 ∷ 63 ∷ [])).0 e)) in
    cc)

no-word : (text : List ℕ) → has_word_start text ≡ false → NoWord text []
unfolding has_word_start
no-word [] h = tt
no-word (b ∷ text) h =
    let parts = or_none (starts_with nat_eq (b ∷ text) (codes "=?")) (has_word_start text) h in
    (subst (λ l. word_at (b ∷ l) ≡ None) (sym (append-nil text)) (none-prefix (b ∷ text) (other-way (b ∷ text) parts.0)), no-word text parts.1)

-- clear text alone
abbrev pub clear_parts : List ℕ → List Part
clear_parts [] = []
clear_parts (b ∷ text) = Clear (b ∷ text) ∷ []

clear-spelled : (text : List ℕ) → spellings (clear_parts text) ≡ text
clear-spelled [] = refl
clear-spelled (b ∷ text) = append-nil (b ∷ text)

clear-read : (text : List ℕ) → has_word_start text ≡ false → Reads false (clear_parts text)
clear-read [] h = tt
clear-read (b ∷ text) h = (omega arith, no-word (b ∷ text) h, (λ next. cc), (λ after next. absurd cc), tt)

pub plain-reading : (text : List ℕ) → has_word_start text ≡ false → reading_of text ≡ clear_parts text
plain-reading text h = ap reading_of (sym (clear-spelled text)) ∙ reading_of-spellings (clear_parts text) (clear-read text h)

clear-short : (text : List ℕ) → long_words (clear_parts text) ≡ []
clear-short [] = refl
clear-short (b ∷ text) = refl

clear-fine : (strategy : RecoverStrategy) (text : List ℕ) → encoding_fault strategy (clear_parts text) ≡ None
clear-fine strategy [] = refl
clear-fine strategy (b ∷ text) = refl

clear-texts : (strategy : RecoverStrategy) (indexes : Indexes) (text : List ℕ) → IsUtf8 text → join_lists (map (part_text strategy indexes) (clear_parts text)) ≡ Ok text
clear-texts strategy indexes [] utf8 = refl
clear-texts strategy indexes (b ∷ text) utf8 =
    ap (λ (r : Text). then_list r (Ok [])) (clear-text (b ∷ text) utf8) ∙ ap Ok (append-nil (b ∷ text))

plain-shown : (strategy : RecoverStrategy) (indexes : Indexes) (text : List ℕ) → IsUtf8 text → has_word_start text ≡ false → header strategy indexes text ≡ Ok text
unfolding header
plain-shown strategy indexes text utf8 h =
    ap (parts_text strategy indexes) (plain-reading text h)
    ∙ parts-shown strategy indexes (clear_parts text) text (clear-short text) (clear-fine strategy text) (clear-texts strategy indexes text utf8)

is-false : (t : Bool) → not t ≡ true → t ≡ false
is-false true e = absurd cc
is-false false e = refl

pub plain-start : (text : List ℕ) → is_plain text ≡ true → has_word_start text ≡ false
plain-start text h = is-false (has_word_start text) (and_parts _ (not (has_word_start text)) h).1

-- the law
pub read-back : (strategy : RecoverStrategy) (indexes : Indexes) (text : List ℕ) → IsUtf8 text → header strategy indexes (written text) ≡ Ok text
read-back strategy indexes text utf8 = by_test (is_plain text) refl
  where
    by_test : (t : Bool) → is_plain text ≡ t → header strategy indexes (written text) ≡ Ok text
    by_test true e = ap (header strategy indexes) (plain-is text e) ∙ plain-shown strategy indexes text utf8 (plain-start text e)
    by_test false e = ap (header strategy indexes) (words-are text e) ∙ words-shown strategy indexes text utf8

words-short : (text : List ℕ) → IsUtf8 text → long_words (reading_of (words_of text)) ≡ []
unfolding words_of
words-short text utf8 = let are = all-groups text utf8 in ap long_words (reading-is (groups text) are) ∙ all-short (groups text) are

pub no-long : (text : List ℕ) → IsUtf8 text → long_words (reading_of (written text)) ≡ []
no-long text utf8 = by_test (is_plain text) refl
  where
    by_test : (t : Bool) → is_plain text ≡ t → long_words (reading_of (written text)) ≡ []
    by_test true e = ap (λ s. long_words (reading_of s)) (plain-is text e) ∙ ap long_words (plain-reading text (plain-start text e)) ∙ clear-short text
    by_test false e = ap (λ s. long_words (reading_of s)) (words-are text e) ∙ words-short text utf8

-- what a reader answers of a written text
ok-is : (r : Text) (a b : List ℕ) → r ≡ Ok a → r ≡ Ok b → a ≡ b
ok-is r a b h k = cc

pub same-text : (strategy : RecoverStrategy) (indexes : Indexes) (bytes text back : List ℕ) → IsUtf8 text → bytes ≡ written text
    → header strategy indexes bytes ≡ Ok back → back ≡ text
same-text strategy indexes bytes text back utf8 e h =
    ok-is (header strategy indexes bytes) back text h (ap (header strategy indexes) e ∙ read-back strategy indexes text utf8)

no-fault : (r : Text) (text : List ℕ) (fault : Option HeaderFault) → r ≡ Ok text → ¬ IsSomeAnd fault (λ f. r ≡ Err f)
no-fault r text None ok h = h
no-fault r text (Some f) ok h = cc

pub only-memory : (strategy : RecoverStrategy) (indexes : Indexes) (bytes text : List ℕ) (error : Error) → IsUtf8 text → bytes ≡ written text
    → ((error ≡ Memory) ⊎ IsSomeAnd (fault_of error) (λ f. header strategy indexes bytes ≡ Err f)) → error ≡ Memory
only-memory strategy indexes bytes text error utf8 e (inl h) = h
only-memory strategy indexes bytes text error utf8 e (inr h) =
    absurd (no-fault (header strategy indexes bytes) text (fault_of error) (ap (header strategy indexes) e ∙ read-back strategy indexes text utf8) h)
