-- What a decoder of quoted-printable text keeps of a line between pieces (RFC 2045, section 6.7).
use Rattle.std.specs.Prelude.{◌≡◌, ℕ, ◌≤◌, ◌==◌, ◌||◌, ◌&&◌, not, Bool, true, false, nat_lt, List, []}
use Rattle.std.specs.Prelude.{◌∷◌, ◌++◌, length, take}
use Rattle.std.specs.List.{list_all, prefix_len, suffix_len}
use Rattle.qp.specs.Text.{is_text_octet, is_line_padding, kept}
use Rattle.qp.specs.Robust.{robust}
use Rattle.mail_body.specs.declared.quoted.TheConstants.{MOST_BLANKS}
use Rattle.mail_body.specs.declared.quoted.Begun.{Begun}
use Rattle.mail_body.specs.declared.quoted.Begun.TheVariants.{NoEscape, Equals, OneByte}

-- somewhere more than so many tabs, spaces and CRs stand in a row
unfoldable pub has_run_beyond : ℕ → List ℕ → Bool
has_run_beyond most [] = false
has_run_beyond most (b ∷ rest) =
    nat_lt most (prefix_len is_line_padding (b ∷ rest)) || has_run_beyond most rest

-- more blanks stand in a row than a reader holds
abbrev pub has_blank_run : List ℕ → Bool
has_blank_run text = has_run_beyond MOST_BLANKS text

-- the bytes of an escape that is begun
abbrev pub begun_bytes : Begun → List ℕ
begun_bytes NoEscape = []
begun_bytes Equals = 61 ∷ []
begun_bytes (OneByte b) = 61 ∷ b ∷ []

-- a byte that may stand in text, and is neither a blank nor LF
abbrev pub is_plain : ℕ → Bool
is_plain b = is_text_octet b && (not (is_line_padding b) && not (b == 10))

abbrev pub has_plain : Begun → Bool
has_plain NoEscape = true
has_plain Equals = true
has_plain (OneByte b) = is_plain b

-- what the end of the text makes of it: `=` and one byte stand as they are, and `=` alone is a soft
-- line break
abbrev pub last_bytes : Begun → List ℕ
last_bytes NoEscape = []
last_bytes Equals = []
last_bytes (OneByte b) = 61 ∷ b ∷ []

-- what the end of the line makes of it
abbrev pub end_bytes : Begun → List ℕ
end_bytes NoEscape = 13 ∷ 10 ∷ []
end_bytes Equals = []
end_bytes (OneByte b) = 61 ∷ b ∷ 13 ∷ 10 ∷ []

-- how many blanks behind it make it stand as it is, whatever follows in the line: with one blank,
-- `=` has the next byte with it
abbrev pub blanks_needed : Begun → ℕ
blanks_needed NoEscape = 0
blanks_needed Equals = 2
blanks_needed (OneByte b) = 1

-- what is kept is an escape that is begun, and blanks behind it, not too many of them
pub record IsHeld (begun : Begun) (count : ℕ) (blanks : List ℕ) : Type 0 where
  pub plain : has_plain begun ≡ true
  pub within : count ≤ length blanks
  pub most : length blanks ≡ MOST_BLANKS
  pub blank : list_all is_line_padding (take count blanks) ≡ true

-- the same as a list
abbrev pub held_bytes : Begun → ℕ → List ℕ → List ℕ
held_bytes begun count blanks = begun_bytes begun ++ take count blanks

-- a byte that is no blank came behind what was kept: what was written before and what is still to
-- come is the same as before it, and what is kept now ends what was kept and the byte
pub record GoesOn (before : List ℕ) (byte : ℕ) (after old new : List ℕ) : Type 0 where
  pub value : (rest : List ℕ) → new ++ robust (after ++ rest) ≡ old ++ robust (before ++ byte ∷ rest)
  pub front : List ℕ
  pub is : front ++ after ≡ before ++ byte ∷ []
  pub no_blanks : list_all (λ b. not (is_line_padding b)) after ≡ true

-- what is kept behind a piece ends what was kept and the bytes of the piece that may stand in text,
-- with all blanks that stand last there; and runs of blanks are those that they were
pub record Keeps (before piece after : List ℕ) : Type 0 where
  pub front : List ℕ
  pub is : front ++ after ≡ before ++ kept piece
  pub blanks : suffix_len is_line_padding (before ++ kept piece) ≤ length after
  pub runs : (rest : List ℕ)
      → has_blank_run (before ++ (kept piece ++ rest)) ≡ has_blank_run (after ++ rest)

-- a piece came behind what was kept: what was written before and what is still to come is the same
-- as before it
pub record DecodesQuoted (before piece after old new : List ℕ) : Type 0 where
  pub value : (rest : List ℕ)
      → new ++ robust (after ++ rest) ≡ old ++ robust (before ++ (piece ++ rest))
  pub keeps : Keeps before piece after
