-- How a header is cut into encoded words, clear text and the gaps between words: RFC 2047, sections
-- 2 and 6.2.
use Rattle.std.specs.Prelude.{◌≡◌, ℕ, zero, suc, ◌-◌, ◌<◌, Bool, true, false, ◌||◌, ◌&&◌, ◌==◌}
use Rattle.std.specs.Prelude.{if◌then◌else◌, Option, Some, None, List, [], ◌∷◌, ◌++◌, length, drop}
use Rattle.std.specs.Prelude.{IsTrue}
use Rattle.std.specs.List.{All, flat_map, list_all}
use Rattle.words.specs.Word.{Word, spelling, BeginsWith, word_at}

-- a part of a header
pub data Part : Type 0 where
  Encoded : Word → Part
  Clear : List ℕ → Part
  Gap : List ℕ → Part

-- a part as it stands in the header
abbrev pub part_spelling : Part → List ℕ
part_spelling (Encoded w) = spelling w
part_spelling (Clear text) = text
part_spelling (Gap text) = text

-- parts as they stand in the header, one after another
abbrev pub spellings : List Part → List ℕ
spellings parts = flat_map part_spelling parts

-- space, tab, LF, FF or CR: what may stand in a gap, RFC 2047, section 6.2, `linear-white-space`,
-- widened by FF and by CR and LF alone
abbrev pub is_gap_byte : ℕ → Bool
is_gap_byte b = b == 32 || b == 9 || b == 10 || b == 12 || b == 13

abbrev pub IsGapText : List ℕ → Type 0
IsGapText text = All (λ b. IsTrue (is_gap_byte b)) text

-- the last part before a place is a word
abbrev pub EndsInWord : List Part → Type 0
EndsInWord front = (before : List Part) × (w : Word) × (front ≡ before ++ Encoded w ∷ [])

-- the last part before a place is clear text
abbrev pub EndsInClear : List Part → Type 0
EndsInClear front = (before : List Part) × (text : List ℕ) × (front ≡ before ++ Clear text ∷ [])

-- the next part is a word
abbrev pub BeginsInWord : List Part → Type 0
BeginsInWord rest = (w : Word) × (after : List Part) × (rest ≡ Encoded w ∷ after)

-- the next part is clear text
abbrev pub BeginsInClear : List Part → Type 0
BeginsInClear rest = (text : List ℕ) × (after : List Part) × (rest ≡ Clear text ∷ after)

-- clear text between these parts is nonempty, stands beside no clear text, and is no gap
pub record IsClearPlace (front : List Part) (text : List ℕ) (rest : List Part) : Type 0 where
  pub nonempty : 0 < length text
  pub not_after_clear : ¬ EndsInClear front
  pub not_before_clear : ¬ BeginsInClear rest
  pub no_gap : EndsInWord front → BeginsInWord rest → ¬ IsGapText text

-- a gap between these parts is nonempty, of gap bytes alone, and stands between two words
pub record IsGapPlace (front : List Part) (text : List ℕ) (rest : List Part) : Type 0 where
  pub nonempty : 0 < length text
  pub gap : IsGapText text
  pub after_word : EndsInWord front
  pub before_word : BeginsInWord rest

-- the parts are a reading of the list; words may begin anywhere, also where no white space stands
-- beside them as RFC 2047, section 5, wants it
pub record IsReading (s : List ℕ) (parts : List Part) : Type 0 where
  -- the parts' spellings join to the list
  pub joins : spellings parts ≡ s
  -- each word begins the list from its place on
  pub words : (front rest : List Part) (w : Word) → parts ≡ front ++ Encoded w ∷ rest
      → BeginsWith (spellings (Encoded w ∷ rest)) w
  -- no word begins inside clear text
  pub no_word : (front rest : List Part) (text : List ℕ) (k : ℕ) (w : Word)
      → parts ≡ front ++ Clear text ∷ rest
      → k < length text → ¬ BeginsWith (drop k (spellings (Clear text ∷ rest))) w
  pub clear : (front rest : List Part) (text : List ℕ) → parts ≡ front ++ Clear text ∷ rest
      → IsClearPlace front text rest
  pub gap : (front rest : List Part) (text : List ℕ) → parts ≡ front ++ Gap text ∷ rest
      → IsGapPlace front text rest

-- a word, or a byte that stands outside of words
pub data Piece : Type 0 where
  Whole : Word → Piece
  Single : ℕ → Piece

-- the word that stands first, and the pieces after as many more bytes as it has; or the first byte
-- alone, and the pieces after it
abbrev pub piece_at : Option Word → ℕ → (ℕ → List Piece) → List Piece
piece_at None b pieces = Single b ∷ pieces 0
piece_at (Some w) b pieces = Whole w ∷ pieces (length (spelling w) - 1)

-- the words of a list from left to right and the bytes outside of them; the first `left` bytes
-- still belong to a word
unfoldable pub pieces_after : ℕ → List ℕ → List Piece
pieces_after left [] = []
pieces_after (suc left) (b ∷ bs) = pieces_after left bs
pieces_after zero (b ∷ bs) = piece_at (word_at (b ∷ bs)) b (λ left. pieces_after left bs)

-- a byte before parts: it joins clear text at their front
abbrev pub before_parts : ℕ → List Part → List Part
before_parts b [] = Clear (b ∷ []) ∷ []
before_parts b (Encoded w ∷ rest) = Clear (b ∷ []) ∷ Encoded w ∷ rest
before_parts b (Clear text ∷ rest) = Clear (b ∷ text) ∷ rest
before_parts b (Gap text ∷ rest) = Clear (b ∷ []) ∷ Gap text ∷ rest

-- words, and the bytes outside of them joined
abbrev pub joined : List Piece → List Part
joined [] = []
joined (Whole w ∷ rest) = Encoded w ∷ joined rest
joined (Single b ∷ rest) = before_parts b (joined rest)

abbrev pub begins_in_word : List Part → Bool
begins_in_word [] = false
begins_in_word (Encoded w ∷ rest) = true
begins_in_word (Clear text ∷ rest) = false
begins_in_word (Gap text ∷ rest) = false

-- text between parts: a gap where it stands between two words and is of gap bytes alone
abbrev pub clear_or_gap : Bool → List ℕ → Part
clear_or_gap between_words text = if between_words && list_all is_gap_byte text then Gap text
    else Clear text

-- the gaps told from clear text: `after_word` tells whether a word stands before the parts
abbrev pub with_gaps : Bool → List Part → List Part
with_gaps after_word [] = []
with_gaps after_word (Encoded w ∷ rest) = Encoded w ∷ with_gaps true rest
with_gaps after_word (Clear text ∷ rest) = clear_or_gap (after_word && begins_in_word rest) text
    ∷ with_gaps false rest
with_gaps after_word (Gap text ∷ rest) = Gap text ∷ with_gaps false rest

-- the only reading of a list (`laws::one_reading`)
unfoldable pub reading_of : List ℕ → List Part
reading_of s = with_gaps false (joined (pieces_after 0 s))
