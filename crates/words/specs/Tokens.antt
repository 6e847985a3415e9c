-- How a header is cut into tokens: encoded words and clear text, without the gaps between words.
use Rattle.std.specs.Prelude.{◌≡◌, ◌≢◌, ℕ, ◌+◌, ◌<◌, ◌^◌, Bool, false, nat_lt, if◌then◌else◌, List}
use Rattle.std.specs.Prelude.{[], ◌∷◌, ◌++◌, length, map, codes, string_bytes}
use Rattle.std.specs.List.{flat_map}
use Rattle.std.specs.Str.Lossy.{utf8_lossy}
use Rattle.words.specs.declared.strategy.RecoverStrategy.{RecoverStrategy}
use Rattle.words.specs.declared.strategy.RecoverStrategy.TheVariants.{Decode, Skip, Abort}
use Rattle.words.specs.declared.lexer.encoded_word.EncodedWord.{EncodedWord}
use Rattle.words.specs.declared.lexer.Token.{Token}
use Rattle.words.specs.declared.lexer.Token.TheVariants as variant
use Rattle.words.specs.declared.lexer.TooLongEncodedWords.{TooLongEncodedWords}
use Rattle.words.specs.declared.lexer.LexerError.{LexerError}
use Rattle.words.specs.declared.lexer.LexerError.TheVariants.{ParseBytesError}
use Rattle.words.specs.declared.lexer.LexerError.TheVariants.{ParseEncodedWordTooLongError, Memory}
use Rattle.words.specs.Word.{Word, spelling}
use Rattle.words.specs.Reading.{Part, Encoded, Clear, Gap}

-- more than the 75 bytes that an encoded word may have: RFC 2047, section 2
abbrev pub is_too_long : Word → Bool
is_too_long w = nat_lt 75 (length (spelling w))

-- a word that stays as it is spelled: a too long one, where the strategy is to skip it
abbrev pub is_skipped : RecoverStrategy → Word → Bool
is_skipped Decode w = false
is_skipped Skip w = is_too_long w
is_skipped Abort w = false

-- a part as too long words: itself or none
abbrev pub long_word : Part → List Word
long_word (Encoded w) = if is_too_long w then w ∷ [] else []
long_word (Clear text) = []
long_word (Gap text) = []

-- the too long words of parts, in order
abbrev pub long_words : List Part → List Word
long_words parts = flat_map long_word parts

-- the words for which a header is refused: the too long ones, where the strategy is to abort
abbrev pub too_long_words : RecoverStrategy → List Part → List Word
too_long_words Decode parts = []
too_long_words Skip parts = []
too_long_words Abort parts = long_words parts

-- a word as it is printed: its spelling, each field read as UTF-8 with U+FFFD for each malformed
-- sequence: RFC 2047, section 2, and Unicode, section 3.9
abbrev pub display_text : Word → List ℕ
display_text w = codes "=?" ++ utf8_lossy w.charset ++ codes "?" ++ utf8_lossy w.encoding
    ++ codes "?" ++ utf8_lossy w.text ++ codes "?="

-- a part as tokens: a gap between words is none, RFC 2047, section 6.2, and a skipped word is clear
-- text of its own
abbrev pub part_tokens : RecoverStrategy → Part → List Part
part_tokens strategy (Encoded w) = (if is_skipped strategy w then Clear (spelling w) else Encoded w)
    ∷ []
part_tokens strategy (Clear text) = Clear text ∷ []
part_tokens strategy (Gap text) = []

-- the parts of a header as tokens
abbrev pub tokens_of : RecoverStrategy → List Part → List Part
tokens_of strategy parts = flat_map (part_tokens strategy) parts

-- the word whose fields these are
abbrev pub word_of : EncodedWord → Word
word_of word = record {
  charset = word.charset.items;
  encoding = word.encoding.items;
  text = word.encoded_text.items;
}

-- the part that a token shows
abbrev pub part_of : Token → Part
part_of (variant.ClearText text) = Clear text.items
part_of (variant.EncodedWord word) = Encoded (word_of word)

-- a word's spelling has a length that a `usize` holds
abbrev pub HasLen : EncodedWord → Type 0
HasLen word = length word.charset.items + length word.encoding.items
    + length word.encoded_text.items + 6 < 2 ^ 64

-- the same of a token; clear text always has one
abbrev pub TokenHasLen : Token → Type 0
TokenHasLen (variant.ClearText text) = Unit {0}
TokenHasLen (variant.EncodedWord word) = HasLen word

-- texts with a comma and a space between them
abbrev pub comma_joined : List (List ℕ) → List ℕ
comma_joined [] = []
comma_joined (text ∷ rest) = text ++ flat_map (λ later. codes ", " ++ later) rest

-- the texts of the words that are too long
abbrev pub texts_of : TooLongEncodedWords → List (List ℕ)
texts_of words = map string_bytes words.0.items

-- why a header has no tokens, where these are the words for which it is refused: there are some,
-- and the error has exactly their texts, in order; or there is no memory
abbrev pub IsLexerFault : List Word → LexerError → Type 0
IsLexerFault words (ParseBytesError message) = ⊥
IsLexerFault words (ParseEncodedWordTooLongError too_long) = (words ≢ [])
    × (texts_of too_long ≡ map display_text words)
IsLexerFault words Memory = Unit {0}
