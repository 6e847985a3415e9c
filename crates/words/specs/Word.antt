-- Encoded words: RFC 2047, section 2.
use Rattle.std.specs.Prelude.{ℕ, ◌<◌, Bool, not, ◌||◌, ◌&&◌, ◌==◌, nat_le, nat_lt, nat_eq}
use Rattle.std.specs.Prelude.{if◌then◌else◌, Option, Some, None, List, ◌++◌, length, drop, IsTrue}
use Rattle.std.specs.Prelude.{codes}
use Rattle.std.specs.List.{All, list_any, list_all, before_first, after_first, starts_with}
use Rattle.std.specs.Io.{StartsWith}

-- an encoded word: its charset field, its encoding field and its text, as they are spelled
pub record Word : Type 0 where
  pub charset : List ℕ
  pub encoding : List ℕ
  pub text : List ℕ

-- the bytes that a charset or encoding field lacks besides white space and controls, the quotation
-- mark aside: RFC 2047, section 2, `especials`
abbrev pub especials : List ℕ
especials = codes "()<>@,;:/[]?.="

-- a byte of a charset or encoding field, no space, no control and no especial: RFC 2047, section 2,
-- `token`, widened by bytes past ASCII
abbrev pub is_field_byte : ℕ → Bool
is_field_byte b = not (nat_le b 32 || b == 127 || list_any (λ e. e == b) especials)

-- a charset or an encoding field: RFC 2047, section 2, `token`
abbrev pub IsField : List ℕ → Type 0
IsField field = (0 < length field) × All (λ b. IsTrue (is_field_byte b)) field

-- a byte of an encoded text, no question mark and no space: RFC 2047, section 2, `encoded-text`,
-- widened by line ends, controls and bytes past ASCII
abbrev pub is_text_byte : ℕ → Bool
is_text_byte b = not (b == 63 || b == 32)

-- an encoded text, which may be empty, as RFC 2047's may not
abbrev pub IsText : List ℕ → Type 0
IsText text = All (λ b. IsTrue (is_text_byte b)) text

-- the three fields are ones of an encoded word
pub record IsWord (w : Word) : Type 0 where
  pub charset : IsField w.charset
  pub encoding : IsField w.encoding
  pub text : IsText w.text

-- a word as it stands in a header: RFC 2047, section 2, `encoded-word`
abbrev pub spelling : Word → List ℕ
spelling w = codes "=?" ++ w.charset ++ codes "?" ++ w.encoding ++ codes "?" ++ w.text ++ codes "?="

-- the word begins the list
pub record BeginsWith (s : List ℕ) (w : Word) : Type 0 where
  pub word : IsWord w
  pub spelled : StartsWith s (spelling w)

abbrev pub is_question_mark : ℕ → Bool
is_question_mark b = b == 63

-- what stands between the question marks of a list, whether it is a word or not
abbrev pub fields_of : List ℕ → Word
fields_of s =
    let inside = drop 2 s in
    let after_charset = after_first is_question_mark inside in
    record {
      charset = before_first is_question_mark inside;
      encoding = before_first is_question_mark after_charset;
      text = before_first is_question_mark (after_first is_question_mark after_charset);
    }

abbrev pub is_field : List ℕ → Bool
is_field field = nat_lt 0 (length field) && list_all is_field_byte field

abbrev pub is_word : Word → Bool
is_word w = is_field w.charset && is_field w.encoding && list_all is_text_byte w.text

-- the word that begins the list, if one does
unfoldable pub word_at : List ℕ → Option Word
word_at s = if is_word (fields_of s) && starts_with nat_eq s (spelling (fields_of s))
    then Some (fields_of s) else None
