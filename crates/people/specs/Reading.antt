-- How a list is cut into words, clear text and the gaps between words, whatever words and gaps are:
-- RFC 2047, sections 2 and 6.2.
use Rattle.std.specs.Prelude.{◌≡◌, ℕ, zero, suc, ◌-◌, ◌<◌, Bool, true, false, ◌&&◌}
use Rattle.std.specs.Prelude.{if◌then◌else◌, Option, Some, None, List, [], ◌∷◌, ◌++◌, length, drop}
use Rattle.std.specs.Prelude.{IsTrue}
use Rattle.std.specs.List.{All, flat_map, list_all}

-- what words and gaps are: the word that begins a list, how a word is spelled, and the bytes of gaps
pub record Syntax (W : Type 0) : Type 0 where
  pub word_at : List ℕ → Option W
  pub spelling : W → List ℕ
  pub is_gap_byte : ℕ → Bool

-- a part of a header
pub data Part (W : Type 0) : Type 0 where
  Encoded : W → Part W
  Clear : List ℕ → Part W
  Gap : List ℕ → Part W

-- a part as it stands in the header
abbrev pub part_spelling : {W : Type 0} → Syntax W → Part W → List ℕ
part_spelling x (Encoded w) = x.spelling w
part_spelling x (Clear text) = text
part_spelling x (Gap text) = text

-- parts as they stand in the header, one after another
abbrev pub spellings : {W : Type 0} → Syntax W → List (Part W) → List ℕ
spellings x parts = flat_map (part_spelling x) parts

abbrev pub IsGapText : {W : Type 0} → Syntax W → List ℕ → Type 0
IsGapText x text = All (λ b. IsTrue (x.is_gap_byte b)) text

-- the last part before a place is a word
abbrev pub EndsInWord : {W : Type 0} → List (Part W) → Type 0
EndsInWord {W = W} front = (before : List (Part W)) × (w : W) × (front ≡ before ++ Encoded w ∷ [])

-- the last part before a place is clear text
abbrev pub EndsInClear : {W : Type 0} → List (Part W) → Type 0
EndsInClear {W = W} front = (before : List (Part W)) × (text : List ℕ)
    × (front ≡ before ++ Clear text ∷ [])

-- the next part is a word
abbrev pub BeginsInWord : {W : Type 0} → List (Part W) → Type 0
BeginsInWord {W = W} rest = (w : W) × (after : List (Part W)) × (rest ≡ Encoded w ∷ after)

-- the next part is clear text
abbrev pub BeginsInClear : {W : Type 0} → List (Part W) → Type 0
BeginsInClear {W = W} rest = (text : List ℕ) × (after : List (Part W)) × (rest ≡ Clear text ∷ after)

-- clear text between these parts is nonempty, stands beside no clear text, and is no gap
pub record IsClearPlace {W : Type 0} (x : Syntax W) (front : List (Part W)) (text : List ℕ)
    (rest : List (Part W)) : Type 0 where
  pub nonempty : 0 < length text
  pub not_after_clear : ¬ EndsInClear front
  pub not_before_clear : ¬ BeginsInClear rest
  pub no_gap : EndsInWord front → BeginsInWord rest → ¬ IsGapText x text

-- a gap between these parts is nonempty, of gap bytes alone, and stands between two words
pub record IsGapPlace {W : Type 0} (x : Syntax W) (front : List (Part W)) (text : List ℕ)
    (rest : List (Part W)) : Type 0 where
  pub nonempty : 0 < length text
  pub gap : IsGapText x text
  pub after_word : EndsInWord front
  pub before_word : BeginsInWord rest

-- the parts are a reading of the list; words may begin anywhere, also where no white space stands
-- beside them as RFC 2047, section 5, wants it
pub record IsReading {W : Type 0} (x : Syntax W) (s : List ℕ) (parts : List (Part W)) : Type 0 where
  -- the parts' spellings join to the list
  pub joins : spellings x parts ≡ s
  -- each word is the one that begins the list from its place on
  pub words : (front rest : List (Part W)) (w : W) → parts ≡ front ++ Encoded w ∷ rest
      → x.word_at (spellings x (Encoded w ∷ rest)) ≡ Some w
  -- no word begins inside clear text
  pub no_word : (front rest : List (Part W)) (text : List ℕ) (k : ℕ)
      → parts ≡ front ++ Clear text ∷ rest → k < length text
      → x.word_at (drop k (spellings x (Clear text ∷ rest))) ≡ None
  pub clear : (front rest : List (Part W)) (text : List ℕ) → parts ≡ front ++ Clear text ∷ rest
      → IsClearPlace x front text rest
  pub gap : (front rest : List (Part W)) (text : List ℕ) → parts ≡ front ++ Gap text ∷ rest
      → IsGapPlace x front text rest

-- a word, or a byte that stands outside of words
pub data Piece (W : Type 0) : Type 0 where
  Whole : W → Piece W
  Single : ℕ → Piece W

-- the word that stands first, and the pieces after as many more bytes as it has; or the first byte
-- alone, and the pieces after it
abbrev pub piece_at : {W : Type 0} → Syntax W → Option W → ℕ → (ℕ → List (Piece W)) → List (Piece W)
piece_at x None b pieces = Single b ∷ pieces 0
piece_at x (Some w) b pieces = Whole w ∷ pieces (length (x.spelling w) - 1)

-- the words of a list from left to right and the bytes outside of them; the first `left` bytes
-- still belong to a word
unfoldable pub pieces_after : {W : Type 0} → Syntax W → ℕ → List ℕ → List (Piece W)
pieces_after x left [] = []
pieces_after x (suc left) (b ∷ bs) = pieces_after x left bs
pieces_after x zero (b ∷ bs) = piece_at x (x.word_at (b ∷ bs)) b (λ left. pieces_after x left bs)

-- a byte before parts: it joins clear text at their front
abbrev pub before_parts : {W : Type 0} → ℕ → List (Part W) → List (Part W)
before_parts b [] = Clear (b ∷ []) ∷ []
before_parts b (Encoded w ∷ rest) = Clear (b ∷ []) ∷ Encoded w ∷ rest
before_parts b (Clear text ∷ rest) = Clear (b ∷ text) ∷ rest
before_parts b (Gap text ∷ rest) = Clear (b ∷ []) ∷ Gap text ∷ rest

-- words, and the bytes outside of them joined
abbrev pub joined : {W : Type 0} → List (Piece W) → List (Part W)
joined [] = []
joined (Whole w ∷ rest) = Encoded w ∷ joined rest
joined (Single b ∷ rest) = before_parts b (joined rest)

abbrev pub begins_in_word : {W : Type 0} → List (Part W) → Bool
begins_in_word [] = false
begins_in_word (Encoded w ∷ rest) = true
begins_in_word (Clear text ∷ rest) = false
begins_in_word (Gap text ∷ rest) = false

-- text between parts: a gap where it stands between two words and is of gap bytes alone
abbrev pub clear_or_gap : {W : Type 0} → Syntax W → Bool → List ℕ → Part W
clear_or_gap x between_words text = if between_words && list_all x.is_gap_byte text then Gap text
    else Clear text

-- the gaps told from clear text: `after_word` tells whether a word stands before the parts
abbrev pub with_gaps : {W : Type 0} → Syntax W → Bool → List (Part W) → List (Part W)
with_gaps x after_word [] = []
with_gaps x after_word (Encoded w ∷ rest) = Encoded w ∷ with_gaps x true rest
with_gaps x after_word (Clear text ∷ rest) =
    clear_or_gap x (after_word && begins_in_word rest) text ∷ with_gaps x false rest
with_gaps x after_word (Gap text ∷ rest) = Gap text ∷ with_gaps x false rest

-- the only reading of a list (`laws::one_reading`)
unfoldable pub reading_of : {W : Type 0} → Syntax W → List ℕ → List (Part W)
reading_of x s = with_gaps x false (joined (pieces_after x 0 s))

-- what the words and gaps of a reading have to keep: a word's spelling is the front of the list that
-- it begins, and isn't empty; no word begins with a byte of a gap
pub record IsSyntax {W : Type 0} (x : Syntax W) : Type 0 where
  pub spelled : (s : List ℕ) (w : W) → x.word_at s ≡ Some w
      → s ≡ x.spelling w ++ drop (length (x.spelling w)) s
  pub nonempty : (s : List ℕ) (w : W) → x.word_at s ≡ Some w → 0 < length (x.spelling w)
  pub no_gap : (b : ℕ) (bs : List ℕ) → x.is_gap_byte b ≡ true → x.word_at (b ∷ bs) ≡ None
