-- A long header of words, made from a number, and the line that tells of it.
use Rattle.std.specs.Prelude.{◌≡◌, ◌≢◌, ◌⊎◌, ℕ, ◌%◌, ◌==◌, if◌then◌else◌, Option, Some, Result, Ok}
use Rattle.std.specs.Prelude.{Err, IsOkAnd, List, [], ◌++◌, length, map, codes, decimal, sum}
use Rattle.std.specs.Prelude.{String, string_bytes, Vec}
use Rattle.std.specs.declared.alloc.Global.{Global}
use Rattle.std.specs.Io.KnownBytes.{Appends}
use Rattle.std.specs.List.{join_with_byte, range_with_len}
use Rattle.enc_io.specs.Options.{default_options}
use Rattle.words.specs.declared.strategy.RecoverStrategy.TheVariants.{Abort}
use Rattle.words.specs.Header.{header}
use Rattle.unwrap.specs.declared.header.HeaderError.{HeaderError}
use Rattle.unwrap.specs.declared.status.Status.{Status}
use Rattle.unwrap.specs.declared.status.Status.TheVariants.{Done, WriteFault, Memory}
use Rattle.unwrap.specs.Delivers.{Answer, Delivers}
use Rattle.unwrap.specs.Header.{shown}
use Rattle.unwrap.specs.HeaderErrors.{error_status}
use Rattle.unwrap.specs.Moves.{AppendsPrefix}

-- the part of this number, from 0: a word in UTF-8, a word in ISO-8859-1 or clear text, in turn
-- (RFC 2047, section 2)
abbrev pub part : ℕ → List ℕ
part i =
    if i % 3 == 0 then codes "=?utf-8?Q?a" ++ decimal i ++ codes "=C3=A9?="
    else if i % 3 == 1 then codes "=?iso-8859-1?Q?b" ++ decimal i ++ codes "=E9?="
    else codes "c" ++ decimal i

-- the header of so many parts, with a space between each two
unfoldable pub made : ℕ → List ℕ
made n = join_with_byte 32 (map part (range_with_len 0 n))

-- what stands before the part of this number
abbrev pub separator : ℕ → List ℕ
separator i = if i == 0 then [] else codes " "

-- a header of so many bytes has a text of so many, and this is the sum of the text's bytes
abbrev pub tell : ℕ → ℕ → ℕ → List ℕ
tell input output total =
    ((codes "made " ++ decimal input ++ codes " bytes, ") ++ codes "text " ++ decimal output
    ++ codes " bytes, ") ++ codes "sum " ++ decimal total ++ codes "\n"

-- the line that tells of a header of so many bytes and of its text
abbrev pub line : ℕ → List ℕ → List ℕ
line input text = tell input (length text) (sum text)

-- what comes of a header of so many bytes: its line, or what came in place of its text
abbrev pub Tells : ℕ → Result (String Global) HeaderError → Result (Vec ℕ Global) Status → Type 0
Tells input (Ok text) (Ok bytes) = bytes.items ≡ line input (string_bytes text)
Tells input (Ok text) (Err status) = status ≡ Memory
Tells input (Err error) (Ok bytes) = ⊥
Tells input (Err error) (Err status) = status ≡ error_status error

-- the line of a text, or the fault that there is none
abbrev pub line_answer : ℕ → Answer → Answer
line_answer input (Ok text) = Ok (line input text)
line_answer input (Err fault) = Err fault

-- the line of a header and its text
abbrev pub summary : ℕ → List ℕ → Answer
summary input bytes = line_answer input (shown Abort default_options [] bytes)

-- how the line of this header was written: as the value of a source that holds the header, which
-- was read as `left` tells
pub record WritesLine (header : List ℕ) (taken taken' : Option (List ℕ))
    (status : Status) : Type 0 where
  pub left : Option (List ℕ)
  pub delivers : Delivers (summary (length header)) 999999999 (Some header) left taken taken' status

-- how a command ends that makes a header of so many parts: what a sink has taken, and the status
pub record TellsMade (parts : ℕ) (taken taken' : Option (List ℕ)) (status : Status) : Type 0 where
  -- what was written is the line of the header and its text, which it has
  pub headline : status ≡ Done
      → IsOkAnd (header Abort [] (made parts))
      (λ text. Appends taken taken' (line (length (made parts)) text))
  pub prefix : status ≡ WriteFault
      → IsOkAnd (header Abort [] (made parts))
      (λ text. AppendsPrefix taken taken' (line (length (made parts)) text))
  -- when it succeeds, but for want of memory
  pub complete : status ≢ WriteFault → (status ≡ Done) ⊎ (status ≡ Memory)
