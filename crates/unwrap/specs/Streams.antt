-- The command that writes a stream's text as it reads.
use Rattle.std.specs.Prelude.{◌≡◌, ◌≢◌, ◌⊎◌, ℕ, ◌+◌, ◌*◌, ◌≤◌, ⊤, Option, Some, None, IfSome, List}
use Rattle.std.specs.Prelude.{[], ◌++◌, length, Result, Ok, Err}
use Rattle.std.specs.Io.KnownBytes.{Appends, Consumes, IsAtEnd}
use Rattle.enc_drivers.specs.Units.{AreBytes}
use Rattle.enc_front.specs.declared.encoding.Encoding.{Encoding}
use Rattle.enc_front.specs.Indexes.{Indexes}
use Rattle.enc_io.specs.Options.{Options, unknown_encoding}
use Rattle.enc_io.specs.Reader.{ReaderStanding}
use Rattle.enc_io.specs.Text.{chosen, stream_text}
use Rattle.unwrap.specs.Asked.{Stream}
use Rattle.unwrap.specs.Copies.{Copies}
use Rattle.unwrap.specs.declared.command_line.options.ReaderOptions.{ReaderOptions}
use Rattle.unwrap.specs.declared.status.Status.{Status}
use Rattle.unwrap.specs.declared.status.Status.TheVariants.{Done, NoTable, ReadFault, TooMuch}
use Rattle.unwrap.specs.declared.status.Status.TheVariants.{WriteFault, Memory}
use Rattle.unwrap.specs.declared.text.CopyFault.{CopyFault}
use Rattle.unwrap.specs.declared.text.CopyFault.TheVariants as fault
use Rattle.unwrap.specs.Moves.{AppendsPrefix, Loses, LosesAtMost}
use Rattle.unwrap.specs.TablesOf.{Files, WithTables}

-- options of a command line as a reader's
abbrev pub reader_of : ReaderOptions → Options
reader_of options = record {
  encoding = options.encoding;
  utf8_passthru = options.utf8_passthru;
  strip_bom = options.strip_bom;
  bom_override = options.bom_override;
  bom_sniffing = options.bom_sniffing;
  limit = options.limit;
}

-- the status of a copy
abbrev pub copy_status : Result ℕ CopyFault → Status
copy_status (Ok n) = Done
copy_status (Err fault.ReadFault) = ReadFault
copy_status (Err fault.TooMuch) = TooMuch
copy_status (Err fault.WriteFault) = WriteFault

-- the command ended while it read and wrote
abbrev pub StopsInText : Status → Type 0
StopsInText ReadFault = ⊤
StopsInText TooMuch = ⊤
StopsInText WriteFault = ⊤
StopsInText _ = ⊥

-- a copy of a reader's text in pieces of at most so many bytes ended so
pub record EndsCopy (before : ReaderStanding) (left' : Option (List ℕ)) (faults' : ℕ)
    (taken taken' : Option (List ℕ)) (piece : ℕ) (status : Status) : Type 0 where
  pub after : ReaderStanding
  pub answer : Result ℕ CopyFault
  pub copies : Copies before after taken taken' piece answer
  pub same_status : status ≡ copy_status answer
  pub same_left : left' ≡ after.left
  pub same_faults : faults' ≡ after.faults

-- what is written of a stream: the text of its bytes; the encoding that they are read by, if any;
-- and how many bytes of the text of those that were read may wait in the end
pub record Writing : Type 0 where
  pub text : List ℕ → List ℕ
  pub chosen : List ℕ → Option Encoding
  pub waits : ℕ

-- the same of a reader with a buffer and pieces of such lengths: a piece may wait, and three bytes
-- for each byte of the buffer and for ten more
abbrev pub writing : Options → Indexes → ℕ → ℕ → Writing
writing options indexes buffer piece = record {
  text = stream_text options indexes;
  chosen = chosen options;
  waits = piece + 3 * (buffer + 10);
}

-- of the text of the bytes that a source gave and lost, a sink took all but at most so many bytes
-- at its end
pub record WritesAllBut (text : List ℕ → List ℕ) (most : ℕ)
    (left left' taken taken' : Option (List ℕ)) : Type 0 where
  pub given : List ℕ
  pub front : List ℕ
  pub behind : List ℕ
  pub consumed : Consumes left left' given
  pub written : Appends taken taken' front
  pub whole : text given ≡ front ++ behind
  pub few : length behind ≤ most

-- where the source failed, at most nine bytes, the text of three that are undecided; none where the
-- bytes pass as they are, once three were given
pub record WritesAllGiven (writing : Writing)
    (left left' taken taken' : Option (List ℕ)) : Type 0 where
  pub nearly : WritesAllBut writing.text 9 left left' taken taken'
  pub all : 3 ≤ length nearly.given → writing.chosen nearly.given ≡ None → nearly.behind ≡ []

-- how a command ends that writes the text of at most so many bytes, where the encoding that has no
-- index is this, if one is: what a source has left, what a sink has taken, and the status
pub record Streams (missing : Option Encoding) (writing : Writing) (most : ℕ)
    (left left' taken taken' : Option (List ℕ)) (status : Status) : Type 0 where
  -- what was written is the text of all that the source held
  pub headline : status ≡ Done → IfSome left (λ s. Appends taken taken' (writing.text s))
  pub drained : status ≡ Done → IsAtEnd left'
  pub limit : status ≡ Done → IfSome left (λ s. length s ≤ most)
  -- a prefix of it, where a byte is a number below 256
  pub prefix : StopsInText status
      → IfSome left (λ s. AreBytes s → AppendsPrefix taken taken' (writing.text s))
  -- and where a read or a write failed, of the bytes that were given almost all
  pub read_fault : status ≡ ReadFault → WritesAllGiven writing left left' taken taken'
  pub write_fault : status ≡ WriteFault
      → WritesAllBut writing.text writing.waits left left' taken taken'
  pub too_much : status ≡ TooMuch → Loses left left' (most + 1)
  pub given : status ≢ TooMuch → LosesAtMost left left' most
  pub table : (encoding : Encoding) → status ≡ NoTable encoding → missing ≡ Some encoding
  pub no_table : IfSome missing (λ encoding. (status ≡ NoTable encoding) ⊎ (status ≡ Memory))
  -- when it succeeds, but for want of memory
  pub complete : missing ≡ None
      → IfSome left (λ s. length s ≤ most → status ≢ ReadFault → status ≢ WriteFault → (status ≡ Done)
      ⊎ (status ≡ Memory))

-- the encoding that is asked for, where an index that it needs isn't there
abbrev pub missing : Stream → Indexes → Option Encoding
missing stream indexes = unknown_encoding (reader_of stream.reader) indexes

-- what is written of a stream
abbrev pub written : Stream → Indexes → Writing
written stream indexes = writing (reader_of stream.reader) indexes stream.buffer stream.piece

-- how `text` ends, by what a shelf tells of its files, a source has left and a sink has taken
abbrev pub EndsText : Stream → Option Files → Option (List ℕ) → Option (List ℕ) → Option (List ℕ)
    → Option (List ℕ) → Status → Type 0
EndsText stream files left left' taken taken' status =
    WithTables stream.files files status
    (λ indexes. Streams (missing stream indexes) (written stream indexes) stream.reader.limit left
    left' taken taken' status)
