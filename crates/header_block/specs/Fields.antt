-- The fields of a header block, unfolded (RFC 5322, sections 2.1, 2.2 and 2.2.3).
use Rattle.std.specs.Prelude.{ℕ, ◌==◌, ◌<◌, ◌||◌, Bool, false, if◌then◌else◌, List, [], ◌∷◌, ◌++◌}
use Rattle.std.specs.Prelude.{length}
use Rattle.header_block.specs.declared.field_reader.TheConstants.{LONGEST}
use Rattle.header_block.specs.Lines.{text_lines}

-- space or tab
abbrev pub is_wsp : ℕ → Bool
is_wsp b = (b == 32) || (b == 9)

-- a line that begins with space or tab
abbrev pub begins_wsp : List ℕ → Bool
begins_wsp [] = false
begins_wsp (b ∷ bytes) = is_wsp b

-- the lines before the first empty one, or all (RFC 5322, section 2.1)
abbrev pub header_lines : List (List ℕ) → List (List ℕ)
header_lines [] = []
header_lines ([] ∷ lines) = []
header_lines ((b ∷ line) ∷ lines) = (b ∷ line) ∷ header_lines lines

-- whether the first line goes on with the field before
abbrev pub goes_on : List (List ℕ) → Bool
goes_on [] = false
goes_on (line ∷ lines) = begins_wsp line

-- a line at the front of the first field, which it makes where there is none
abbrev pub onto_field : List ℕ → List (List ℕ) → List (List ℕ)
onto_field line [] = line ∷ []
onto_field line (field ∷ fields) = (line ++ field) ∷ fields

-- each line that begins with space or tab is joined to the line before, with nothing between them
-- (RFC 5322, section 2.2.3)
abbrev pub unfolded : List (List ℕ) → List (List ℕ)
unfolded [] = []
unfolded (line ∷ lines) = if goes_on lines then onto_field line (unfolded lines)
    else line ∷ unfolded lines

-- the unfolded texts of the fields of a text, up to its first empty line
abbrev pub fields : List ℕ → List (List ℕ)
fields text = unfolded (header_lines (text_lines text))

-- there is a first field, and it has more bytes than a field may have
abbrev pub BeginsTooLong : List (List ℕ) → Type 0
BeginsTooLong [] = ⊥
BeginsTooLong (field ∷ fields) = LONGEST < length field
