-- A byte order mark at the front of a stream, byte by byte.
use Rattle.std.specs.Prelude.{◌≡◌, ℕ, List, [], ◌∷◌, ◌++◌, IsTrue}
use Rattle.enc_front.specs.declared.encoding.Encoding.{Encoding}
use Rattle.enc_front.specs.declared.mark.MarkPart.{MarkPart}
use Rattle.enc_front.specs.declared.mark.MarkPart.TheVariants.{Ef, EfBb, Fe, Ff}
use Rattle.enc_front.specs.declared.mark.Start.{Start}
use Rattle.enc_front.specs.declared.mark.Start.TheVariants.{Any, Own, Seen, Over}
use Rattle.enc_front.specs.declared.mark.Look.{Look}
use Rattle.enc_front.specs.declared.mark.Look.TheVariants.{Part, Mark, Other}
use Rattle.enc_front.specs.Indexes.{is_built_in}
use Rattle.enc_front.specs.Decoder.{Marks, any_mark, own_mark, no_mark, past_mark}

-- the bytes of a part of a mark
abbrev pub part_bytes : MarkPart → List ℕ
part_bytes Ef = 0xEF ∷ []
part_bytes EfBb = 0xEF ∷ 0xBB ∷ []
part_bytes Fe = 0xFE ∷ []
part_bytes Ff = 0xFF ∷ []

-- the byte of its mark behind it
abbrev pub next_byte : MarkPart → ℕ
next_byte Ef = 0xBB
next_byte EfBb = 0xBF
next_byte Fe = 0xFF
next_byte Ff = 0xFE

-- the marks that are removed: behind the first byte of one, the only one that it begins
abbrev pub marks_at : Start → Marks
marks_at Any = any_mark
marks_at Own = own_mark
marks_at (Seen part) = any_mark
marks_at Over = no_mark

-- the bytes of a mark that were read
abbrev pub bytes_at : Start → List ℕ
bytes_at Any = []
bytes_at Own = []
bytes_at (Seen part) = part_bytes part
bytes_at Over = []

-- what the next byte makes of the bytes that were read, whatever follows: a part of a mark, a whole
-- mark, or neither
abbrev pub LooksAt : Start → Encoding → ℕ → Look → Type 0
LooksAt start encoding byte (Part part) =
    ((more : List ℕ) → past_mark (marks_at start) encoding (bytes_at start ++ byte ∷ more)
    ≡ past_mark any_mark encoding (part_bytes part ++ more))
    × (part_bytes part ≡ bytes_at start ++ byte ∷ [])
LooksAt start encoding byte (Mark found) =
    ((more : List ℕ) → past_mark (marks_at start) encoding (bytes_at start ++ byte ∷ more)
    ≡ (found, more)) × IsTrue (is_built_in found)
LooksAt start encoding byte Other =
    (more : List ℕ) → past_mark (marks_at start) encoding (bytes_at start ++ byte ∷ more)
    ≡ (encoding, bytes_at start ++ byte ∷ more)
