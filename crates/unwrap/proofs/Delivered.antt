-- Counts of faults where nothing was made, and what is made of a source's bytes.
use Rattle.std.proofs.Common.{◌≡◌, ◌≤◌, ℕ, Option, Some, None, List, length, refl, rules, subst, sym, Result, Ok, Err, IfOk, IfErr, Vec}
use Rattle.std.specs.Prelude.{IsSome, IsSomeAnd, MatchResult}
use Rattle.std.specs.declared.alloc.Global.{Global}
use Rattle.std.specs.Io.KnownBytes.{Consumes, IsAtEnd}
use Rattle.enc_front.specs.declared.encoding.Encoding.{Encoding}
use Rattle.words.specs.Fault.{HeaderFault, fault_of}
use Rattle.unwrap.specs.declared.status.ReadError.{ReadError}
use Rattle.unwrap.specs.declared.status.ReadError.TheVariants as read
use Rattle.unwrap.specs.declared.status.Status.{Status}
use Rattle.unwrap.specs.declared.status.Status.TheVariants.{Done, Header, Usage, BadIndex, NoTable, ReadFault, TooMuch, WriteFault, Memory, Shelf, Quoted}
use Rattle.unwrap.specs.Delivers.{Answer, HasRead, InHeader, IsRefused, Makes, Refuses, TellsSomeFault}
use Rattle.unwrap.specs.Moves.{IsReadError}
use Rattle.unwrap.specs.Status.{Counts, IsBeforeSource, IsBehindFiles, TellsTable, read_status}
use Rattle.unwrap.proofs.Appended.{of_whole}

same : (status : Status) (reads reads' writes : ℕ) → (status ≡ ReadFault → ⊥) → (status ≡ WriteFault → ⊥) → reads' ≡ reads → Counts status reads reads' writes writes
same status reads reads' writes no_read no_write count = record {
  read_fault = λ e. absurd (no_read e);
  source_count = λ _. count;
  write_fault = λ e. absurd (no_write e);
  sink_count = λ _. refl;
}

pub refused_counts : (value : List ℕ → Answer) (limit : ℕ) (left left' : Option (List ℕ)) (reads reads' writes : ℕ) (status : Status)
    → IsRefused value limit left left' reads reads' status → Counts status reads reads' writes writes
refused_counts value limit left left' reads reads' writes ReadFault h = record {
  read_fault = λ _. h.0;
  source_count = λ n. absurd (n refl);
  write_fault = λ e. cc;
  sink_count = λ _. refl;
}
refused_counts value limit left left' reads reads' writes Done h = absurd h
refused_counts value limit left left' reads reads' writes WriteFault h = absurd h
refused_counts value limit left left' reads reads' writes TooMuch h = same TooMuch reads reads' writes (λ e. cc) (λ e. cc) h.0
refused_counts value limit left left' reads reads' writes Memory h = same Memory reads reads' writes (λ e. cc) (λ e. cc) h.0
refused_counts value limit left left' reads reads' writes (Header error) h = same (Header error) reads reads' writes (λ e. cc) (λ e. cc) h.0
refused_counts value limit left left' reads reads' writes Usage h = absurd h
refused_counts value limit left left' reads reads' writes (NoTable encoding) h = same (NoTable encoding) reads reads' writes (λ e. cc) (λ e. cc) h.0
refused_counts value limit left left' reads reads' writes (Quoted error) h = same (Quoted error) reads reads' writes (λ e. cc) (λ e. cc) h.0
refused_counts value limit left left' reads reads' writes (BadIndex fault) h = absurd h
refused_counts value limit left left' reads reads' writes (Shelf fault) h = absurd h

-- a refusal is never that of the words or of index files
pub behind_files : (value : List ℕ → Answer) (limit : ℕ) (left left' : Option (List ℕ)) (reads reads' : ℕ) (status : Status)
    → IsRefused value limit left left' reads reads' status → IsBehindFiles status
behind_files value limit left left' reads reads' Usage h = h
behind_files value limit left left' reads reads' (BadIndex fault) h = h
behind_files value limit left left' reads reads' (Shelf fault) h = h
behind_files value limit left left' reads reads' (NoTable encoding) h = tt
behind_files value limit left left' reads reads' Done h = tt
behind_files value limit left left' reads reads' WriteFault h = tt
behind_files value limit left left' reads reads' ReadFault h = tt
behind_files value limit left left' reads reads' TooMuch h = tt
behind_files value limit left left' reads reads' Memory h = tt
behind_files value limit left left' reads reads' (Header error) h = tt
behind_files value limit left left' reads reads' (Quoted error) h = tt

-- the bytes that a source gave to its end
pub has_read : (limit : ℕ) (left left' : Option (List ℕ)) (bytes : List ℕ) → Consumes left left' bytes → IsAtEnd left' → length bytes ≤ limit → HasRead limit left left'
has_read limit left left' bytes moved end within = record {
  drained = end;
  within = of_whole left left' bytes moved end (λ s. length s ≤ limit) within;
  given = (bytes, moved, within);
}

fault_told : (value : Answer) (status : Status) → Refuses value status → TellsSomeFault status
fault_told value (Header error) h = some_fault (fault_of error) h
  where
    some_fault : (o : Option HeaderFault) → IsSomeAnd o (λ fault. value ≡ Err (InHeader fault)) → IsSome o
    some_fault None h = absurd h
    some_fault (Some fault) h = search rules
fault_told value (Quoted error) h = tt
fault_told value (BadIndex fault) h = tt
fault_told value (Shelf fault) h = tt
fault_told value Memory h = tt
fault_told value Done h = tt
fault_told value Usage h = tt
fault_told value (NoTable encoding) h = tt
fault_told value ReadFault h = tt
fault_told value TooMuch h = tt
fault_told value WriteFault h = tt

-- what is made of the bytes that a source gave to its end
pub makes : (value : List ℕ → Answer) (limit : ℕ) (left left' : Option (List ℕ)) (reads reads' : ℕ) (bytes : List ℕ) (answer : Result (Vec ℕ Global) Status)
    → Consumes left left' bytes → IsAtEnd left' → length bytes ≤ limit → reads' ≡ reads
    → IfOk answer (λ made. value bytes ≡ Ok made.items) → IfErr answer (Refuses (value bytes))
    → Makes value limit left left' reads reads' answer
makes value limit left left' reads reads' bytes (Ok made) moved end within count ok err =
    (count, has_read limit left left' bytes moved end within, of_whole left left' bytes moved end (λ s. value s ≡ Ok made.items) ok)
makes value limit left left' reads reads' bytes (Err (Header error)) moved end within count ok err =
    (count, has_read limit left left' bytes moved end within, fault_told (value bytes) (Header error) err, of_whole left left' bytes moved end (λ s. Refuses (value s) (Header error)) err)
makes value limit left left' reads reads' bytes (Err (Quoted error)) moved end within count ok err =
    (count, has_read limit left left' bytes moved end within, tt, of_whole left left' bytes moved end (λ s. Refuses (value s) (Quoted error)) err)
makes value limit left left' reads reads' bytes (Err (BadIndex fault)) moved end within count ok err = absurd err
makes value limit left left' reads reads' bytes (Err (Shelf fault)) moved end within count ok err = absurd err
makes value limit left left' reads reads' bytes (Err Memory) moved end within count ok err = (count, (bytes, moved, within))
makes value limit left left' reads reads' bytes (Err Done) moved end within count ok err = absurd err
makes value limit left left' reads reads' bytes (Err Usage) moved end within count ok err = absurd err
makes value limit left left' reads reads' bytes (Err (NoTable encoding)) moved end within count ok err = absurd err
makes value limit left left' reads reads' bytes (Err ReadFault) moved end within count ok err = absurd err
makes value limit left left' reads reads' bytes (Err TooMuch) moved end within count ok err = absurd err
makes value limit left left' reads reads' bytes (Err WriteFault) moved end within count ok err = absurd err

-- where reading failed nothing is made
pub makes_none : (value : List ℕ → Answer) (limit : ℕ) (left left' : Option (List ℕ)) (reads reads' : ℕ) (error : ReadError)
    → IsReadError left left' reads reads' limit error → Makes value limit left left' reads reads' (Err (read_status error))
makes_none value limit left left' reads reads' read.ReadFault h = h
makes_none value limit left left' reads reads' read.TooMuch h = h
makes_none value limit left left' reads reads' read.Memory h = h

-- no value is missed for want of an index
before_source : (value : Answer) (status : Status) → Refuses value status → IsBeforeSource status → ⊥
before_source value Usage h e = h
before_source value (BadIndex fault) h e = h
before_source value (NoTable encoding) h e = h
before_source value (Shelf fault) h e = h
before_source value Done h e = e
before_source value (Header error) h e = e
before_source value ReadFault h e = e
before_source value TooMuch h e = e
before_source value WriteFault h e = e
before_source value Memory h e = e
before_source value (Quoted error) h e = e

reading_before_source : (error : ReadError) → IsBeforeSource (read_status error) → ⊥
reading_before_source read.ReadFault h = h
reading_before_source read.TooMuch h = h
reading_before_source read.Memory h = h

-- where no index is missing
pub tells_none : (status : Status) → (IsBeforeSource status → ⊥) → TellsTable None status
tells_none status never = record {
  table = λ encoding e. absurd (never (subst IsBeforeSource (sym e) tt));
  no_table = tt;
}

pub makes_tables : (missing : Option Encoding) (value : List ℕ → Answer) (bytes : List ℕ) (answer : Result (Vec ℕ Global) Status) → missing ≡ None
    → IfErr answer (Refuses (value bytes)) → MatchResult answer (λ _. missing ≡ None) (TellsTable missing)
makes_tables missing value bytes (Ok made) none h = none
makes_tables missing value bytes (Err status) none h =
    subst (λ (m : Option Encoding). TellsTable m status) (sym none) (tells_none status (before_source (value bytes) status h))

pub makes_unread : (P : Type 0) (value : List ℕ → Answer) (bytes : List ℕ) (answer : Result (Vec ℕ Global) Status) → IfErr answer (Refuses (value bytes))
    → IfErr answer (λ status. IsBeforeSource status → P)
makes_unread P value bytes (Ok made) h = tt
makes_unread P value bytes (Err status) h = λ e. absurd (before_source (value bytes) status h e)

pub read_tables : (error : ReadError) → TellsTable None (read_status error)
read_tables error = tells_none (read_status error) (reading_before_source error)

pub read_unread : (P : Type 0) (error : ReadError) → IsBeforeSource (read_status error) → P
read_unread P error h = absurd (reading_before_source error h)

-- what was made is written
pub tells_written : (missing : Option Encoding) (status : Status) → missing ≡ None → (IsBeforeSource status → ⊥) → TellsTable missing status
tells_written missing status none never = subst (λ (m : Option Encoding). TellsTable m status) (sym none) (tells_none status never)

-- what ends behind the index files has no index missing
pub never_tables : (missing : Option Encoding) (answer : Result (Vec ℕ Global) Status) → missing ≡ None → IfErr answer (λ status. IsBeforeSource status → ⊥)
    → MatchResult answer (λ _. missing ≡ None) (TellsTable missing)
never_tables missing (Ok made) none h = none
never_tables missing (Err status) none h = subst (λ (m : Option Encoding). TellsTable m status) (sym none) (tells_none status h)

pub never_unread : (P : Type 0) (answer : Result (Vec ℕ Global) Status) → IfErr answer (λ status. IsBeforeSource status → ⊥) → IfErr answer (λ status. IsBeforeSource status → P)
never_unread P (Ok made) h = tt
never_unread P (Err status) h = λ e. absurd (h e)
