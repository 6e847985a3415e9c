-- The indexes that the index files of a command line make (Encoding Standard, section 5).
use Rattle.std.specs.Prelude.{◌≡◌, ◌⊎◌, ℕ, zero, suc, ◌+◌, ◌<◌, nat_lt, ⊤, Bool, true, false}
use Rattle.std.specs.Prelude.{if◌then◌else◌, List, [], ◌∷◌, length, take, Option, Some, None}
use Rattle.std.specs.Prelude.{IfSome, Result, Ok, Err, IfOk, IfErr, IsOk}
use Rattle.std.specs.Option.{option_map}
use Rattle.enc_front.specs.declared.tables.IndexKind.{IndexKind}
use Rattle.enc_front.specs.declared.tables.Why.{Why}
use Rattle.enc_front.specs.IndexFile.{index_pairs}
use Rattle.enc_front.specs.Indexes.{Indexes, has_kind, with_index}
use Rattle.enc_front.specs.Tables.{row_fault}
use Rattle.enc_io.specs.Faults.{Rose, count_after}
use Rattle.unwrap.specs.declared.status.ShelfFault.{ShelfFault}
use Rattle.unwrap.specs.declared.status.Status.{Status}
use Rattle.unwrap.specs.declared.status.Status.TheVariants.{BadIndex, Memory, Shelf}
use Rattle.unwrap.specs.declared.status.TableFault.{TableFault}
use Rattle.unwrap.specs.declared.status.TableFault.TheVariants.{AlreadyThere, BadLine, BadTable}
use Rattle.unwrap.specs.Files.{file}

-- the files of a shelf by their names, of which the first of a name counts
abbrev pub Files : Type 0
Files = List (List ℕ × List ℕ)

-- an index file that the words name: the kind of its index, and its name
abbrev pub Named : Type 0
Named = IndexKind × List ℕ

-- a file that the shelf doesn't give, by its number, and whether it is too long
abbrev pub shelf_fault : ℕ → Bool → Status
shelf_fault number too_long = Shelf (record { file = number; too_long = too_long })

-- a file that is wrong, by its number
abbrev pub bad_index : ℕ → TableFault → Status
bad_index number fault = BadIndex (record { file = number; fault = fault })

-- a faulty row of a table
abbrev pub bad_row : ℕ × Why → TableFault
bad_row fault = BadTable fault.0 fault.1

-- why no index of a kind is made of these pairs: there is one, or the first faulty row and its
-- first reason
abbrev pub pairs_fault : Indexes → IndexKind → List (ℕ × ℕ) → Option TableFault
pairs_fault indexes kind pairs = if has_kind indexes kind then Some (AlreadyThere kind)
    else option_map bad_row (row_fault kind pairs)

-- the indexes, or the status of a fault
abbrev pub unless_fault : ℕ → Indexes → Option TableFault → Result Indexes Status
unless_fault number indexes None = Ok indexes
unless_fault number indexes (Some fault) = Err (bad_index number fault)

-- the indexes with that of one file's pairs, or of its first bad line
abbrev pub with_pairs : ℕ → Indexes → IndexKind → Result (List (ℕ × ℕ)) ℕ → Result Indexes Status
with_pairs number indexes kind (Ok pairs) =
    unless_fault number (with_index indexes kind pairs) (pairs_fault indexes kind pairs)
with_pairs number indexes kind (Err line) = Err (bad_index number (BadLine line))

-- the indexes with that of one file of this number, or the status that the file calls for: it isn't
-- there, it has more than 4,194,304 bytes, it has a bad line, there is an index of its kind, or a
-- row of it is faulty
abbrev pub with_file : ℕ → Indexes → IndexKind → Option (List ℕ) → Result Indexes Status
with_file number indexes kind None = Err (shelf_fault number false)
with_file number indexes kind (Some bytes) =
    if nat_lt 4194304 (length bytes) then Err (shelf_fault number true)
    else with_pairs number indexes kind (index_pairs bytes)

-- what goes on from indexes, where there are some
abbrev pub then_on : Result Indexes Status → (Indexes → Result Indexes Status)
    → Result Indexes Status
then_on (Ok indexes) next = next indexes
then_on (Err status) next = Err status

-- the indexes with those of files one by one, of which the first has this number
abbrev pub tables_from : Files → ℕ → Indexes → List Named → Result Indexes Status
tables_from all number indexes [] = Ok indexes
tables_from all number indexes (named ∷ rest) =
    then_on (with_file number indexes named.0 (file all named.1))
    (λ more. tables_from all (number + 1) more rest)

-- the indexes that index files make in their order, counted from 0, or the status that the first of
-- them calls for that makes none
abbrev pub tables_of : Files → List Named → Result Indexes Status
tables_of all files = tables_from all 0 [] files

-- what holds of the files of a shelf, where it tells them or no index file is named
abbrev pub IfTold : List Named → Option Files → (Files → Type 0) → Type 0
IfTold [] told P = P []
IfTold (named ∷ rest) None P = ⊤
IfTold (named ∷ rest) (Some all) P = P all

-- the shelf failed
abbrev pub IsShelfFailure : Status → Type 0
IsShelfFailure (Shelf fault) = fault.too_long ≡ false
IsShelfFailure _ = ⊥

-- a file is too long, or wrong
abbrev pub IsFaultOfFile : Status → Type 0
IsFaultOfFile (Shelf fault) = fault.too_long ≡ true
IsFaultOfFile (BadIndex fault) = ⊤
IsFaultOfFile _ = ⊥

-- a count of calls after some more
abbrev pub calls_after : ℕ → ℕ → ℕ
calls_after zero calls = calls
calls_after (suc n) calls = count_after (calls_after n calls)

-- the shelf failed at the file of this number, and all before it make indexes
pub record FailsAt (files : List Named) (told : Option Files)
    (faults faults' calls calls' number : ℕ) : Type 0 where
  pub named : number < length files
  pub rose : Rose faults faults'
  pub called : calls' ≡ calls_after (number + 1) calls
  pub before : IfSome told (λ all. IsOk (tables_of all (take number files)))

-- how index files are taken from a shelf, by the status of the command: what the shelf tells, how
-- often it failed, and how many calls it got
pub record TakesFiles (files : List Named) (told told' : Option Files)
    (faults faults' calls calls' : ℕ) (status : Status) : Type 0 where
  pub same : told' ≡ told
  pub counted : ¬ IsShelfFailure status → faults' ≡ faults
  pub failed : (fault : ShelfFault) → status ≡ Shelf fault → fault.too_long ≡ false
      → FailsAt files told faults faults' calls calls' fault.file
  -- a status of a file is that which the files call for
  pub fault : IsFaultOfFile status → IfTold files told (λ all. tables_of all files ≡ Err status)
  -- and comes wherever they do, but for want of memory and a failure of the shelf
  pub ends : IfTold files told
      (λ all. IfErr (tables_of all files)
      (λ wanted. (status ≡ wanted) ⊎ (status ≡ Memory) ⊎ IsShelfFailure status))

-- unless the shelf failed, this holds of the indexes that the files make
abbrev pub WithTables : List Named → Option Files → Status → (Indexes → Type 0) → Type 0
WithTables files told status P = ¬ IsShelfFailure status
    → IfTold files told (λ all. IfOk (tables_of all files) P)
