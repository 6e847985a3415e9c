-- How index files are taken, one by one.
use Rattle.std.specs.Prelude.{◌≡◌, ℕ, ⊤, true, false, Option, IfSome, List, Result, Ok, Err}
use Rattle.enc_front.specs.declared.index_file.IndexError.{IndexError}
use Rattle.enc_front.specs.declared.index_file.IndexError.TheVariants as line
use Rattle.enc_front.specs.declared.tables.TableError.{TableError}
use Rattle.enc_front.specs.declared.tables.TableError.TheVariants as table
use Rattle.enc_front.specs.declared.tables.Tables.{Tables}
use Rattle.enc_front.specs.Indexes.{Indexes, indexes_of}
use Rattle.enc_io.specs.Faults.{Rose}
use Rattle.unwrap.specs.declared.devices.shelf.ShelfError.{ShelfError}
use Rattle.unwrap.specs.declared.devices.shelf.ShelfError.TheVariants as shelf
use Rattle.unwrap.specs.declared.status.Status.{Status}
use Rattle.unwrap.specs.declared.status.Status.TheVariants.{BadIndex, Memory, Shelf}
use Rattle.unwrap.specs.declared.status.TableFault.TheVariants.{AlreadyThere, BadLine, BadTable}
use Rattle.unwrap.specs.Files.{file}
use Rattle.unwrap.specs.TablesOf.{Files, IfTold, IsFaultOfFile, Named, TakesFiles, bad_index}
use Rattle.unwrap.specs.TablesOf.{shelf_fault, tables_of, with_file}

-- the status of a file that the shelf didn't give
abbrev pub shelf_status : ℕ → ShelfError → Status
shelf_status number shelf.Memory = Memory
shelf_status number shelf.Failed = shelf_fault number false
shelf_status number shelf.TooLong = shelf_fault number true

-- the status of a file with a bad line
abbrev pub line_status : ℕ → IndexError → Status
line_status number line.Memory = Memory
line_status number (line.BadLine n) = bad_index number (BadLine n)

-- the status of a file whose pairs make no index
abbrev pub table_status : ℕ → TableError → Status
table_status number table.Memory = Memory
table_status number (table.AlreadyThere kind) = bad_index number (AlreadyThere kind)
table_status number (table.BadTable row why) = bad_index number (BadTable row why)

-- why a file gave no index: no memory, a failure of the shelf, or the status that the file calls
-- for
pub data Refused (number : ℕ) (named : Named) (told : Option Files) (faults faults' : ℕ)
    (indexes : Indexes) (status : Status) : Type 0 where
  OfMemory : status ≡ Memory → faults' ≡ faults
      → Refused number named told faults faults' indexes status
  OfShelf : status ≡ shelf_fault number false → Rose faults faults'
      → Refused number named told faults faults' indexes status
  OfFile : IsFaultOfFile status → faults' ≡ faults
      → IfSome told (λ all. with_file number indexes named.0 (file all named.1) ≡ Err status)
      → Refused number named told faults faults' indexes status

-- what comes of one file
abbrev pub Adds : ℕ → Named → Option Files → ℕ → ℕ → Indexes → Indexes → Result ⊤ Status → Type 0
Adds number named told faults faults' indexes indexes' (Ok _) = (faults' ≡ faults)
    × IfSome told (λ all. with_file number indexes named.0 (file all named.1) ≡ Ok indexes')
Adds number named told faults faults' indexes indexes' (Err status) =
    Refused number named told faults faults' indexes status

-- the command ended at its index files
abbrev pub IsOfFiles : Status → Type 0
IsOfFiles Memory = ⊤
IsOfFiles (Shelf fault) = ⊤
IsOfFiles (BadIndex fault) = ⊤
IsOfFiles _ = ⊥

-- what comes of all files
abbrev pub MakesTables : List Named → Option Files → Option Files → ℕ → ℕ → ℕ → ℕ
    → Result Tables Status → Type 0
MakesTables files told told' faults faults' calls calls' (Ok tables) = (told' ≡ told)
    × (faults' ≡ faults) × IfTold files told (λ all. tables_of all files ≡ Ok (indexes_of tables))
MakesTables files told told' faults faults' calls calls' (Err status) = IsOfFiles status
    × TakesFiles files told told' faults faults' calls calls' status
