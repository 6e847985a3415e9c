-- That the header of so many parts has a text.
use Rattle.std.proofs.Common.{◌≡◌, ℕ, zero, suc, ◌+◌, ◌<◌, ◌≤◌, ◌^◌, ◌%◌, ◌==◌, Bool, true, false, ◌&&◌, None, List, [], ◌∷◌, ◌++◌, length, map, take, Ok, Err, IsOk, refl, sym, subst, ap, ◌∙◌, arith, append_assoc, append-nil, length-append}
use Rattle.std.specs.Prelude.{⊤, codes, decimal, nat_eq, nat_lt, if◌then◌else◌}
use Rattle.std.specs.List.{join_with_byte, list_all, range_with_len}
use Rattle.std.specs.Str.{IsAscii}
use Rattle.std.specs.Str.Parse.{AllDigits}
use Rattle.std.specs.Cmp.Lexicographic.{pointwise}
use Rattle.std.proofs.lemmas.Bool.{and_from}
use Rattle.std.proofs.lemmas.Bool.Decides.{nat_tests}
use Rattle.std.proofs.lemmas.Fmt.{decimal_is_IsNumeral, length-decimal-le}
use Rattle.std.proofs.lemmas.Str.{IsUtf8-from_ascii}
use Rattle.std.proofs.lemmas.Str.Parse.{digit_from_value}
use Rattle.enc_front.specs.Charset.{charset_text}
use Rattle.words.specs.declared.strategy.RecoverStrategy.TheVariants.{Abort}
use Rattle.words.specs.Encoding.{encoding_of}
use Rattle.words.specs.Header.{Text, clear_text, encoding_fault, header, part_text, parts_text, q_value, shown_value, value_by}
use Rattle.words.specs.Joined.{join_lists, then_list}
use Rattle.words.specs.Reading.{Part, Encoded, Clear, Gap, Piece, Whole, Single, before_parts, joined, pieces_after, reading_of, with_gaps}
use Rattle.words.specs.Tokens.{long_words}
use Rattle.words.specs.Word.{Word, is_text_byte, is_word, spelling, word_at}
use Rattle.words.proofs.Found.{none-prefix}
use Rattle.words.proofs.Parsing.{clear-text}
use Rattle.words.proofs.Unique.{pieces-end, pieces-none, pieces-spelling}
use Rattle.words.proofs.Words.{IsWord-from_test}
use Rattle.unwrap.specs.Made.{made, part}

-- a short word whose text is quoted-printable
record IsShortQ (w : Word) : Type 0 where
  encoding : w.encoding ≡ 81 ∷ []
  short : length (spelling w) ≤ 75

abbrev ArePlain : List ℕ → Type 0
ArePlain [] = ⊤
ArePlain (b ∷ bs) = (b < 128) × ArePlain bs

-- pieces and parts of such words and of ASCII
abbrev FinePieces : List Piece → Type 0
FinePieces [] = ⊤
FinePieces (Whole w ∷ rest) = IsShortQ w × FinePieces rest
FinePieces (Single b ∷ rest) = (b < 128) × FinePieces rest

abbrev FineParts : List Part → Type 0
FineParts [] = ⊤
FineParts (Encoded w ∷ rest) = IsShortQ w × FineParts rest
FineParts (Clear text ∷ rest) = ArePlain text × FineParts rest
FineParts (Gap text ∷ rest) = FineParts rest

before-fine : (b : ℕ) (parts : List Part) → b < 128 → FineParts parts → FineParts (before_parts b parts)
before-fine b [] small h = ((small, tt), tt)
before-fine b (Encoded w ∷ rest) small h = ((small, tt), h)
before-fine b (Clear text ∷ rest) small h = ((small, h.0), h.1)
before-fine b (Gap text ∷ rest) small h = ((small, tt), h)

joined-fine : (pieces : List Piece) → FinePieces pieces → FineParts (joined pieces)
joined-fine [] h = tt
joined-fine (Whole w ∷ rest) h = (h.0, joined-fine rest h.1)
joined-fine (Single b ∷ rest) h = before-fine b (joined rest) h.0 (joined-fine rest h.1)

chosen-fine : (gap : Bool) (text : List ℕ) (rest : List Part) → ArePlain text → FineParts rest → FineParts ((if gap then Gap text else Clear text) ∷ rest)
chosen-fine true text rest plain h = h
chosen-fine false text rest plain h = (plain, h)

gaps-fine : (after_word : Bool) (parts : List Part) → FineParts parts → FineParts (with_gaps after_word parts)
gaps-fine after_word [] h = tt
gaps-fine after_word (Encoded w ∷ rest) h = (h.0, gaps-fine true rest h.1)
gaps-fine after_word (Clear text ∷ rest) h = chosen-fine _ text (with_gaps false rest) h.0 (gaps-fine false rest h.1)
gaps-fine after_word (Gap text ∷ rest) h = gaps-fine false rest h

-- such parts have a text
ascii : (text : List ℕ) → ArePlain text → IsAscii text
ascii [] h i = omega arith
ascii (b ∷ bs) h zero = h.0
ascii (b ∷ bs) h (suc i) = ascii bs h.1 i

no_long_word : (parts : List Part) → FineParts parts → long_words parts ≡ []
no_long_word [] h = refl
no_long_word (Encoded w ∷ rest) h =
    let short : nat_lt 75 (length (spelling w)) ≡ false = by_short (length (spelling w)) h.0.short in
    ap (λ t. (if t then w ∷ [] else []) ++ long_words rest) short ∙ no_long_word rest h.1
  where
    by_short : (n : ℕ) → n ≤ 75 → nat_lt 75 n ≡ false
    by_short n le = grind (arith, nat_tests)
no_long_word (Clear text ∷ rest) h = no_long_word rest h.1
no_long_word (Gap text ∷ rest) h = no_long_word rest h

no_encoding_fault : (parts : List Part) → FineParts parts → encoding_fault Abort parts ≡ None
no_encoding_fault [] h = refl
no_encoding_fault (Encoded w ∷ rest) h = rw h.0.encoding (no_encoding_fault rest h.1)
no_encoding_fault (Clear text ∷ rest) h = no_encoding_fault rest h.1
no_encoding_fault (Gap text ∷ rest) h = no_encoding_fault rest h

then-ok : (front : List ℕ) (first rest : Text) → first ≡ Ok front → IsOk rest → IsOk (then_list first rest)
then-ok front (Ok a) (Ok b) e h = refl
then-ok front (Ok a) (Err b) e h = h
then-ok front (Err a) rest e h = let bad : Err a ≡ Ok front = e in cc

word-shown : (shown : List ℕ → List ℕ) (encoding text : List ℕ) → encoding ≡ 81 ∷ [] → shown_value shown (value_by (encoding_of encoding) text) ≡ Ok (shown (q_value text))
word-shown shown encoding text e = rw e refl

texts-ok : (parts : List Part) → FineParts parts → IsOk (join_lists (map (part_text Abort []) parts))
texts-ok [] h = refl
texts-ok (Encoded w ∷ rest) h =
    then-ok _ (part_text Abort [] (Encoded w)) _ (word-shown (charset_text w.charset []) w.encoding w.text h.0.encoding) (texts-ok rest h.1)
texts-ok (Clear text ∷ rest) h = then-ok text (clear_text text) _ (clear-text text (IsUtf8-from_ascii text (ascii text h.0))) (texts-ok rest h.1)
texts-ok (Gap text ∷ rest) h = then-ok [] (Ok []) _ refl (texts-ok rest h)

parts-ok : (parts : List Part) → FineParts parts → IsOk (parts_text Abort [] parts)
parts-ok parts h =
    rw (no_long_word parts h) (rw (no_encoding_fault parts h) (texts-ok parts h))

header-ok : (bytes : List ℕ) → FinePieces (pieces_after 0 bytes) → IsOk (header Abort [] bytes)
unfolding header reading_of
header-ok bytes h = parts-ok (reading_of bytes) (gaps-fine false (joined (pieces_after 0 bytes)) (joined-fine (pieces_after 0 bytes) h))

-- ASCII but the equals sign begins no word
no-word : (b : ℕ) (bs : List ℕ) → (b ≡ 61 → ⊥) → word_at (b ∷ bs) ≡ None
no-word b bs other = none-prefix (b ∷ bs) (ap (λ t. t && pointwise nat_eq (take 1 bs) (63 ∷ [])) not_equal)
  where
    not_equal : nat_eq b 61 ≡ false
    not_equal = grind (arith, nat_tests)

byte-fine : (b : ℕ) (bs : List ℕ) → b < 128 → (b ≡ 61 → ⊥) → FinePieces (pieces_after 0 bs) → FinePieces (pieces_after 0 (b ∷ bs))
byte-fine b bs small other h = subst FinePieces (sym (pieces-none b bs (no-word b bs other))) (small, h)

digits-fine : (ds rest : List ℕ) → AllDigits 10 ds → FinePieces (pieces_after 0 rest) → FinePieces (pieces_after 0 (ds ++ rest))
digits-fine [] rest d h = h
digits-fine (c ∷ cs) rest d h =
    let range = digit_from_value c d.0 in
    byte-fine c (cs ++ rest) (omega (arith, range)) (λ e. omega (arith, range, e)) (digits-fine cs rest d.1 h)

word-fine : (w : Word) (rest : List ℕ) → is_word w ≡ true → IsShortQ w → FinePieces (pieces_after 0 rest) → FinePieces (pieces_after 0 (spelling w ++ rest))
word-fine w rest test short h = subst FinePieces (sym (pieces-spelling w rest (IsWord-from_test w test))) (short, h)

-- digits and more are the text of a word
text-digits : (ds rest : List ℕ) → AllDigits 10 ds → list_all is_text_byte rest ≡ true → list_all is_text_byte (ds ++ rest) ≡ true
text-digits [] rest d h = h
text-digits (c ∷ cs) rest d h = and_from _ _ (one (digit_from_value c d.0)) (text-digits cs rest d.1 h)
  where
    one : (48 ≤ c) × (c ≤ 57) → is_text_byte c ≡ true
    one range = grind (arith, nat_tests)

abbrev in_utf8 : ℕ → Word
in_utf8 i = record { charset = codes "utf-8"; encoding = codes "Q"; text = codes "a" ++ decimal i ++ codes "=C3=A9" }

abbrev in_latin1 : ℕ → Word
in_latin1 i = record { charset = codes "iso-8859-1"; encoding = codes "Q"; text = codes "b" ++ decimal i ++ codes "=E9" }

module _ (i : ℕ) (small : i < 2 ^ 32) (rest : List ℕ) (h : FinePieces (pieces_after 0 rest)) where
  digits : AllDigits 10 (decimal i)
  digits = (decimal_is_IsNumeral i (omega arith)).0.1

  few : length (decimal i) ≤ 10
  few = length-decimal-le 10 i (omega arith) (omega arith) (omega arith)

  utf8-fine : FinePieces (pieces_after 0 ((codes "=?utf-8?Q?a" ++ decimal i ++ codes "=C3=A9?=") ++ rest))
  utf8-fine = subst (λ l. FinePieces (pieces_after 0 (l ++ rest)))
      (ap (λ l. codes "=?utf-8?Q?a" ++ l) (append_assoc (decimal i) (codes "=C3=A9") (codes "?=")))
      (word-fine (in_utf8 i) rest (text-digits (decimal i) (codes "=C3=A9") digits refl)
      (record { encoding = refl; short = omega (arith, few, length-append (decimal i) (codes "=C3=A9"), length-append (decimal i ++ codes "=C3=A9") (codes "?=")) }) h)

  latin1-fine : FinePieces (pieces_after 0 ((codes "=?iso-8859-1?Q?b" ++ decimal i ++ codes "=E9?=") ++ rest))
  latin1-fine = subst (λ l. FinePieces (pieces_after 0 (l ++ rest)))
      (ap (λ l. codes "=?iso-8859-1?Q?b" ++ l) (append_assoc (decimal i) (codes "=E9") (codes "?=")))
      (word-fine (in_latin1 i) rest (text-digits (decimal i) (codes "=E9") digits refl)
      (record { encoding = refl; short = omega (arith, few, length-append (decimal i) (codes "=E9"), length-append (decimal i ++ codes "=E9") (codes "?=")) }) h)

  clear-fine : FinePieces (pieces_after 0 ((codes "c" ++ decimal i) ++ rest))
  clear-fine = byte-fine 99 (decimal i ++ rest) (omega arith) (λ e. omega (arith, e)) (digits-fine (decimal i) rest digits h)

  part-fine : FinePieces (pieces_after 0 (part i ++ rest))
  part-fine = by_tests (i % 3 == 0) (i % 3 == 1)
    where
      by_tests : (zeroth first : Bool) → FinePieces (pieces_after 0 ((if zeroth then codes "=?utf-8?Q?a" ++ decimal i ++ codes "=C3=A9?=" else if first then codes "=?iso-8859-1?Q?b" ++ decimal i ++ codes "=E9?=" else codes "c" ++ decimal i) ++ rest))
      by_tests true first = utf8-fine
      by_tests false true = latin1-fine
      by_tests false false = clear-fine

parts-fine : (a n : ℕ) → a + n ≤ 2 ^ 32 → FinePieces (pieces_after 0 (join_with_byte 32 (map part (range_with_len a n))))
parts-fine a zero h = subst FinePieces (sym pieces-end) tt
parts-fine a (suc zero) h = subst (λ l. FinePieces (pieces_after 0 l)) (append-nil (part a)) (part-fine a (omega (arith, h)) [] (subst FinePieces (sym pieces-end) tt))
parts-fine a (suc (suc n)) h =
    let rest = join_with_byte 32 (map part (range_with_len (a + 1) (suc n))) in
    part-fine a (omega (arith, h)) (32 ∷ rest) (byte-fine 32 rest (omega arith) (λ e. omega (arith, e)) (parts-fine (a + 1) (suc n) (omega (arith, h))))

pub made-ok : (n : ℕ) → n ≤ 20000 → IsOk (header Abort [] (made n))
unfolding made
made-ok n h = header-ok (made n) (parts-fine 0 n (omega (arith, h)))
