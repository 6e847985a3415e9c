-- What holds of written texts, whatever the text.
use Rattle.std.specs.Prelude.{◌≡◌, ℕ, ◌≤◌, List, [], length, All, Ok, None, IsUtf8, IsAscii}
use Rattle.qp.specs.Layout.{broken_lines}
use Rattle.enc_front.specs.Indexes.{Indexes}
use Rattle.enc_front.specs.Marks.{mark}
use Rattle.enc_io.specs.Options.{default_options}
use Rattle.enc_io.specs.Text.{stream_text}
use Rattle.words.specs.declared.strategy.RecoverStrategy.{RecoverStrategy}
use Rattle.words.specs.Header.{header}
use Rattle.words.specs.Reading.{reading_of}
use Rattle.words.specs.Tokens.{long_words}
use Rattle.word_writer.specs.declared.limits.TheConstants.{MAX_LINE_LEN}
use Rattle.word_writer.specs.Written.{written}

-- the header has a text, which is the text that was written, under each strategy and with any
-- indexes
abbrev pub IsReadBack : Type 0
IsReadBack = (strategy : RecoverStrategy) (indexes : Indexes) (text : List ℕ) → IsUtf8 text
    → header strategy indexes (written text) ≡ Ok text

-- no encoded word has more than 75 bytes: RFC 2047, section 2
abbrev pub HasNoLongWord : Type 0
HasNoLongWord = (text : List ℕ) → IsUtf8 text → long_words (reading_of (written text)) ≡ []

-- no line has more than 76 bytes: RFC 2047, section 2
abbrev pub HasShortLines : Type 0
HasShortLines = (text : List ℕ) → IsUtf8 text
    → All (λ line. length line ≤ MAX_LINE_LEN) (broken_lines (written text))

abbrev pub IsInAscii : Type 0
IsInAscii = (text : List ℕ) → IsUtf8 text → IsAscii (written text)

-- no byte order mark stands in front
abbrev pub HasNoMark : Type 0
HasNoMark = (text : List ℕ) → IsUtf8 text → mark (written text) ≡ None

-- a reader of streams gives it as it is, under the default options
abbrev pub IsOwnStreamText : Type 0
IsOwnStreamText = (indexes : Indexes) (text : List ℕ) → IsUtf8 text
    → stream_text default_options indexes (written text) ≡ written text
