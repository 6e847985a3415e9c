-- Texts that are values of headers as they are (RFC 2047, sections 2 and 5).
use Rattle.std.specs.Prelude.{ℕ, Bool, false, not, ◌||◌, ◌&&◌, nat_le, nat_eq, List, [], ◌∷◌}
use Rattle.std.specs.Prelude.{length, codes}
use Rattle.std.specs.List.{list_all, starts_with}
use Rattle.word_writer.specs.declared.limits.TheConstants.{MAX_LINE_LEN}

-- a printable character of ASCII, or a space: RFC 5322, section 2.2, without the tab
abbrev pub is_printable : ℕ → Bool
is_printable b = nat_le 0x20 b && nat_le b 0x7E

-- `=?` stands somewhere: every encoded word begins with it, RFC 2047, section 2
unfoldable pub has_word_start : List ℕ → Bool
has_word_start [] = false
has_word_start (b ∷ rest) = starts_with nat_eq (b ∷ rest) (codes "=?") || has_word_start rest

-- the text has room on one line (RFC 2047, section 2), is printable, and nothing in it can be read
-- as the start of an encoded word
abbrev pub is_plain : List ℕ → Bool
is_plain text = nat_le (length text) MAX_LINE_LEN && list_all is_printable text
    && not (has_word_start text)
