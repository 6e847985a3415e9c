-- The status of a process, and what a command's status says.
use Rattle.std.specs.Prelude.{◌≡◌, ◌≢◌, ◌⊎◌, ℕ, ⊤, List, [], Option, Some, IfSome, codes}
use Rattle.enc_front.specs.declared.encoding.Encoding.{Encoding}
use Rattle.enc_io.specs.Faults.{Rose}
use Rattle.enc_io.specs.declared.builder.BuildError.{BuildError}
use Rattle.enc_io.specs.declared.builder.BuildError.TheVariants as build
use Rattle.unwrap.specs.declared.status.Status.{Status}
use Rattle.unwrap.specs.declared.status.Status.TheVariants.{Done, Header, Usage, BadIndex, NoTable}
use Rattle.unwrap.specs.declared.status.Status.TheVariants.{ReadFault, TooMuch, WriteFault, Memory}
use Rattle.unwrap.specs.declared.status.Status.TheVariants.{Shelf, Quoted}
use Rattle.unwrap.specs.declared.status.ReadError.{ReadError}
use Rattle.unwrap.specs.declared.status.ReadError.TheVariants as read

-- the status of the process
abbrev pub code_of : Status → ℕ
code_of Done = 0
code_of (Header error) = 1
code_of Usage = 2
code_of (BadIndex fault) = 3
code_of (NoTable encoding) = 4
code_of ReadFault = 5
code_of TooMuch = 6
code_of WriteFault = 7
code_of Memory = 8
code_of (Shelf fault) = 9
code_of (Quoted error) = 10

-- the line that is told of a status on standard error; none where all went well
abbrev pub note_of : Status → List ℕ
note_of Done = []
note_of (Header error) = codes "unwrap: the header cannot be shown\n"
note_of Usage = codes "unwrap: the words are not understood\n"
note_of (BadIndex fault) = codes "unwrap: an index file is wrong\n"
note_of (NoTable encoding) = codes "unwrap: the encoding has no index\n"
note_of ReadFault = codes "unwrap: reading failed\n"
note_of TooMuch = codes "unwrap: the input is too long\n"
note_of WriteFault = codes "unwrap: writing failed\n"
note_of Memory = codes "unwrap: no memory\n"
note_of (Shelf fault) = codes "unwrap: an index file cannot be read\n"
note_of (Quoted error) = codes "unwrap: the quoted-printable text is wrong\n"

-- the status of an error of reading
abbrev pub read_status : ReadError → Status
read_status read.ReadFault = ReadFault
read_status read.TooMuch = TooMuch
read_status read.Memory = Memory

-- the status of a reader that isn't built; a buffer is never too small here
abbrev pub build_status : BuildError → Status
build_status (build.NoTable encoding) = NoTable encoding
build_status (build.TooSmall room) = Memory
build_status build.Memory = Memory

-- what is written was made, and all of it or a prefix was written
abbrev pub HasText : Status → Type 0
HasText Done = ⊤
HasText WriteFault = ⊤
HasText _ = ⊥

-- the same of a command that writes as it reads, also where reading failed
abbrev pub HasTextSoFar : Status → Type 0
HasTextSoFar Done = ⊤
HasTextSoFar ReadFault = ⊤
HasTextSoFar TooMuch = ⊤
HasTextSoFar WriteFault = ⊤
HasTextSoFar _ = ⊥

-- the input was read to its end, and want of memory didn't end the command then
abbrev pub HasInput : Status → Type 0
HasInput Done = ⊤
HasInput WriteFault = ⊤
HasInput (Header error) = ⊤
HasInput (Quoted error) = ⊤
HasInput _ = ⊥

-- the command ended behind its words and its index files
abbrev pub IsBehindFiles : Status → Type 0
IsBehindFiles Usage = ⊥
IsBehindFiles (BadIndex fault) = ⊥
IsBehindFiles (Shelf fault) = ⊥
IsBehindFiles _ = ⊤

-- the command ended before it called the source
abbrev pub IsBeforeSource : Status → Type 0
IsBeforeSource Usage = ⊤
IsBeforeSource (BadIndex fault) = ⊤
IsBeforeSource (NoTable encoding) = ⊤
IsBeforeSource (Shelf fault) = ⊤
IsBeforeSource _ = ⊥

-- a status says that an encoding has no index exactly where one is missing, but for want of memory
pub record TellsTable (missing : Option Encoding) (status : Status) : Type 0 where
  pub table : (encoding : Encoding) → status ≡ NoTable encoding → missing ≡ Some encoding
  pub no_table : IfSome missing (λ encoding. (status ≡ NoTable encoding) ⊎ (status ≡ Memory))

-- how often a source and a sink failed in a command
pub record Counts (status : Status) (reads reads' writes writes' : ℕ) : Type 0 where
  pub read_fault : status ≡ ReadFault → Rose reads reads'
  pub source_count : status ≢ ReadFault → reads' ≡ reads
  pub write_fault : status ≡ WriteFault → Rose writes writes'
  pub sink_count : status ≢ WriteFault → writes' ≡ writes
