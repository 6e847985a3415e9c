-- Texts as values of headers (RFC 2047, sections 2, 4.1 and 5).
use Rattle.std.specs.Prelude.{ℕ, true, if◌then◌else◌, List, [], ◌∷◌, ◌++◌, map, codes}
use Rattle.std.specs.List.{flat_map}
use Rattle.base64.specs.Rfc4648.{encode}
use Rattle.words.specs.SpareBits.{alphabet}
use Rattle.words.specs.Word.{Word, spelling}
use Rattle.word_writer.specs.Plain.{is_plain}
use Rattle.word_writer.specs.Groups.{with_mark_twice, groups}

-- octets in Base64, padded with `=` (RFC 2045, section 6.8; RFC 4648, section 4)
abbrev pub base64 : List ℕ → List ℕ
base64 octets = encode alphabet 61 true octets

-- the encoded word of a group: in UTF-8 and Base64 (RFC 2047, section 4.1)
abbrev pub word_of : List ℕ → Word
word_of group = record {
  charset = codes "UTF-8";
  encoding = codes "B";
  text = base64 (with_mark_twice group);
}

-- a line end and a space: the header goes on in the next line (RFC 5322, section 2.2.3)
abbrev pub line_break : List ℕ
line_break = codes "\r\n "

-- words as they stand in a header, with line breaks between them
abbrev pub joined_words : List Word → List ℕ
joined_words [] = []
joined_words (word ∷ words) = spelling word ++ flat_map (λ w. line_break ++ spelling w) words

-- the words of a text's groups
unfoldable pub words_of : List ℕ → List ℕ
words_of text = joined_words (map word_of (groups text))

-- a text as the value of a header: itself where it is plain, else encoded words
unfoldable pub written : List ℕ → List ℕ
written text = if is_plain text then text else words_of text
