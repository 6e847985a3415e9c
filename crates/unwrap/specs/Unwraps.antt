-- The header text of a stream, and what comes of reading it.
use Rattle.std.specs.Prelude.{◌≡◌, ℕ, ◌+◌, Option, Some, None, IfSome, IsSomeAnd, Result, Ok, Err}
use Rattle.std.specs.Prelude.{List, String, string_bytes, Vec}
use Rattle.std.specs.declared.alloc.Global.{Global}
use Rattle.enc_front.specs.declared.encoding.Encoding.{Encoding}
use Rattle.enc_front.specs.Indexes.{Indexes}
use Rattle.enc_io.specs.Faults.{Rose}
use Rattle.enc_io.specs.Options.{Options}
use Rattle.enc_io.specs.Reader.{ReaderStanding, fresh}
use Rattle.enc_io.specs.Text.{stream_text}
use Rattle.words.specs.declared.strategy.RecoverStrategy.{RecoverStrategy}
use Rattle.words.specs.Fault.{HeaderFault, evaluator_fault, lexer_fault, parser_fault}
use Rattle.words.specs.Header.{header}
use Rattle.unwrap.specs.declared.header.HeaderError.{HeaderError}
use Rattle.unwrap.specs.declared.header.HeaderError.TheVariants.{Memory, NoTable, ReadFault}
use Rattle.unwrap.specs.declared.header.HeaderError.TheVariants.{TooMuch, Lexer, Parser, Evaluator}
use Rattle.unwrap.specs.declared.status.ReadError.{ReadError}
use Rattle.unwrap.specs.Delivers.{HasRead}
use Rattle.unwrap.specs.Moves.{IsReadError, Loses, LosesAtMost}

-- the header text of a stream's text (Encoding Standard, section 6, and RFC 2047), or why it has
-- none
abbrev pub header_of : RecoverStrategy → Options → Indexes → List ℕ → Result (List ℕ) HeaderFault
header_of strategy options indexes bytes =
    header strategy indexes (stream_text options indexes bytes)

-- what comes of reading a stream to its end: its text, or why it isn't all there
abbrev pub ReadsStream : Options → Indexes → Option (List ℕ) → Option (List ℕ) → ℕ → ℕ
    → Result (Vec ℕ Global) ReadError → Type 0
ReadsStream o i left left' faults faults' (Ok text) = (faults' ≡ faults)
    × HasRead o.limit left left' × IfSome left (λ s. stream_text o i s ≡ text.items)
ReadsStream o i left left' faults faults' (Err error) =
    IsReadError left left' faults faults' o.limit error

-- the same of a reader, where that is at the start of its stream
abbrev pub ReadsFresh : ReaderStanding → Option (List ℕ) → ℕ → Result (Vec ℕ Global) ReadError
    → Type 0
ReadsFresh reader left' faults' text =
    (o : Options) (i : Indexes) (room : ℕ) (left : Option (List ℕ)) (faults calls : ℕ)
    → reader ≡ fresh o i room left faults calls
    → ReadsStream o i left left' faults faults' text

-- the stream was read to its end, and has no header text for this fault
abbrev pub HasFault : (List ℕ → Result (List ℕ) HeaderFault) → ℕ → Option (List ℕ) → Option (List ℕ)
    → ℕ → ℕ → Option HeaderFault → Type 0
HasFault value limit left left' faults faults' told =
    (faults' ≡ faults) × HasRead limit left left'
    × IsSomeAnd told (λ fault. IfSome left (λ s. value s ≡ Err fault))

-- what comes of a stream of at most so many bytes, whose encoding has all its indexes
abbrev pub Shows : (List ℕ → Result (List ℕ) HeaderFault) → ℕ → Option (List ℕ) → Option (List ℕ)
    → ℕ → ℕ → Result (String Global) HeaderError → Type 0
Shows value limit left left' faults faults' (Ok text) = (faults' ≡ faults)
    × HasRead limit left left' × IfSome left (λ s. value s ≡ Ok (string_bytes text))
Shows value limit left left' faults faults' (Err Memory) = (faults' ≡ faults)
    × LosesAtMost left left' limit
Shows value limit left left' faults faults' (Err ReadFault) = Rose faults faults'
    × LosesAtMost left left' limit
Shows value limit left left' faults faults' (Err TooMuch) = (faults' ≡ faults)
    × Loses left left' (limit + 1)
Shows value limit left left' faults faults' (Err (Lexer error)) =
    HasFault value limit left left' faults faults' (lexer_fault error)
Shows value limit left left' faults faults' (Err (Parser error)) =
    HasFault value limit left left' faults faults' (parser_fault error)
Shows value limit left left' faults faults' (Err (Evaluator error)) =
    HasFault value limit left left' faults faults' (evaluator_fault error)
Shows value limit left left' faults faults' (Err (NoTable encoding)) = ⊥

-- the same of a reader at the start of its stream
abbrev pub ShowsFresh : RecoverStrategy → Indexes → ReaderStanding → Option (List ℕ) → ℕ
    → Result (String Global) HeaderError → Type 0
ShowsFresh strategy indexes reader left' faults' answer =
    (o : Options) (room : ℕ) (left : Option (List ℕ)) (faults calls : ℕ)
    → reader ≡ fresh o indexes room left faults calls
    → Shows (header_of strategy o indexes) o.limit left left' faults faults' answer

-- the same of any stream; where the encoding that is asked for has no index, this is told, and the
-- source is left alone
abbrev pub Unwraps : Option Encoding → (List ℕ → Result (List ℕ) HeaderFault) → ℕ → Option (List ℕ)
    → Option (List ℕ) → ℕ → ℕ → Result (String Global) HeaderError → Type 0
Unwraps missing value limit left left' faults faults' (Err Memory) = (faults' ≡ faults)
    × LosesAtMost left left' limit
Unwraps missing value limit left left' faults faults' (Err (NoTable encoding)) =
    (missing ≡ Some encoding) × (left' ≡ left) × (faults' ≡ faults)
Unwraps missing value limit left left' faults faults' answer = (missing ≡ None)
    × Shows value limit left left' faults faults' answer
