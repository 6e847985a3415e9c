-- What the lexer finds.
use Rattle.std.specs.Prelude.{◌≡◌, ℕ, ◌<◌, Bool, ◌&&◌, if◌then◌else◌, Some, None, List, [], ◌∷◌}
use Rattle.std.specs.Prelude.{◌++◌, length, drop}
use Rattle.std.specs.List.{list_all}
use Rattle.words.specs.Word.{Word, spelling, word_at}
use Rattle.words.specs.Reading.{Part, Encoded, Clear, is_gap_byte}
use Rattle.words.specs.declared.lexer.WordSlices.{WordSlices}
use Rattle.words.specs.declared.lexer.TokenSlice.{TokenSlice}
use Rattle.words.specs.declared.lexer.TokenSlice.TheVariants as slice

-- the word that the slices show
abbrev pub sliced_word : WordSlices → Word
sliced_word slices = record {
  charset = slices.charset.now;
  encoding = slices.encoding.now;
  text = slices.encoded_text.now;
}

-- the part that a token shows, where it stands in the header
abbrev pub token_part : TokenSlice → Part
token_part (slice.ClearText text) = Clear text.now
token_part (slice.EncodedWord word) = Encoded (sliced_word word)

-- a list of these bytes, a question mark and more
abbrev pub SplitsAtMark : List ℕ → List ℕ → List ℕ → Type 0
SplitsAtMark s front rest = s ≡ front ++ 63 ∷ rest

-- no word begins at one of the first n places
abbrev pub NoWordBefore : List ℕ → ℕ → Type 0
NoWordBefore s n = (k : ℕ) → k < n → word_at (drop k s) ≡ None

-- the word is the first one of the list, and stands between these bytes
pub record IsFirstWord (s before : List ℕ) (w : Word) (after : List ℕ) : Type 0 where
  pub whole : s ≡ before ++ (spelling w ++ after)
  pub found : word_at (spelling w ++ after) ≡ Some w
  pub none_before : NoWordBefore s (length before)

-- text outside of words as tokens: none where it is empty, or a gap between two words
abbrev pub text_tokens : Bool → List ℕ → List Part
text_tokens between_words [] = []
text_tokens between_words (b ∷ bs) = if between_words && list_all is_gap_byte (b ∷ bs) then []
    else Clear (b ∷ bs) ∷ []
