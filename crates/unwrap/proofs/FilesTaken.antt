-- How index files are taken, one by one.
use Rattle.std.proofs.Common.{◌≡◌, ◌≢◌, ◌⊎◌, ℕ, zero, suc, ◌+◌, ◌<◌, ◌≤◌, Bool, true, false, List, [], ◌∷◌, ◌++◌, length, map, take, drop, Option, Some, None, IfSome, Result, Ok, Err, IfOk, IfErr, inl, inr, refl, sym, ap, ◌∙◌, subst, arith, add-one, drop-cons, drop_of_length-le, append-nil, take-append-drop}
use Rattle.std.proofs.lemmas.List.{drop-map}
use Rattle.std.specs.Prelude.{IsOk, slice_index_or}
use Rattle.enc_front.specs.declared.tables.Tables.{Tables}
use Rattle.enc_front.specs.Indexes.{Indexes, indexes_of}
use Rattle.enc_io.specs.Faults.{Rose, count_after}
use Rattle.unwrap.specs.declared.command_line.options.IndexFile.{IndexFile}
use Rattle.unwrap.specs.declared.status.ShelfFault.{ShelfFault}
use Rattle.unwrap.specs.declared.status.Status.{Status}
use Rattle.unwrap.specs.declared.status.Status.TheVariants.{Done, Header, Usage, BadIndex, NoTable, ReadFault, TooMuch, WriteFault, Memory, Shelf, Quoted}
use Rattle.unwrap.specs.Files.{file}
use Rattle.unwrap.specs.Indexes.{Adds, IsOfFiles, MakesTables, Refused, OfMemory, OfShelf, OfFile}
use Rattle.enc_front.specs.declared.encoding.Encoding.{Encoding}
use Rattle.unwrap.specs.Status.{Counts, IsBehindFiles, TellsTable}
use Rattle.unwrap.specs.TablesOf.{FailsAt, Files, IfTold, IsFaultOfFile, IsShelfFailure, Named, TakesFiles, WithTables, calls_after, shelf_fault, tables_from, tables_of, then_on, with_file}
use Rattle.unwrap.specs.Values.{file_view}

-- what a shelf tells
both : (o : Option Files) (P Q R : Files → Type 0) → ((all : Files) → P all → Q all → R all) → IfSome o P → IfSome o Q → IfSome o R
both None P Q R f p q = tt
both (Some all) P Q R f p q = f all p q

told_some : (files : List Named) (told : Option Files) (P : Files → Type 0) → 0 < length files → IfSome told P → IfTold files told P
told_some [] told P some h = absurd (omega (arith, some))
told_some (named ∷ rest) None P some h = tt
told_some (named ∷ rest) (Some all) P some h = h

told_always : (files : List Named) (told : Option Files) (P : Files → Type 0) → ((all : Files) → P all) → IfTold files told P
told_always [] told P f = f []
told_always (named ∷ rest) None P f = tt
told_always (named ∷ rest) (Some all) P f = f all

told_more : (files : List Named) (told : Option Files) (P Q : Files → Type 0) → ((all : Files) → P all → Q all) → IfTold files told P → IfTold files told Q
told_more [] told P Q f h = f [] h
told_more (named ∷ rest) None P Q f h = tt
told_more (named ∷ rest) (Some all) P Q f h = f all h

-- some files, and then others
pub tables_append : (all : Files) (xs ys : List Named) (n m : ℕ) (indexes : Indexes) → m ≡ n + length xs
    → tables_from all n indexes (xs ++ ys) ≡ then_on (tables_from all n indexes xs) (λ more. tables_from all m more ys)
tables_append all [] ys n m indexes is =
    let same : n ≡ m = omega (arith, is) in
    ap (λ (k : ℕ). tables_from all k indexes ys) same
tables_append all (x ∷ xs) ys n m indexes is =
    by_first (with_file n indexes x.0 (file all x.1)) (λ more. tables_append all xs ys (n + 1) m more (omega (arith, is)))
  where
    by_first : (r : Result Indexes Status)
        → ((more : Indexes) → tables_from all (n + 1) more (xs ++ ys) ≡ then_on (tables_from all (n + 1) more xs) (λ last. tables_from all m last ys))
        → then_on r (λ more. tables_from all (n + 1) more (xs ++ ys)) ≡ then_on (then_on r (λ more. tables_from all (n + 1) more xs)) (λ last. tables_from all m last ys)
    by_first (Ok more) h = h more
    by_first (Err status) h = refl

-- the tables of the files up to one of them, by those before it
at_file : (all : Files) (before rest : List Named) (named : Named) (n : ℕ) (indexes : Indexes) → n ≡ length before → tables_of all before ≡ Ok indexes
    → tables_of all (before ++ named ∷ rest) ≡ then_on (with_file n indexes named.0 (file all named.1)) (λ more. tables_from all (n + 1) more rest)
at_file all before rest named n indexes is made =
    tables_append all before (named ∷ rest) 0 n [] (omega (arith, is)) ∙ ap (λ (r : Result Indexes Status). then_on r (λ more. tables_from all n more (named ∷ rest))) made

-- so many files were taken
pub record Took (files : List Named) (told told' : Option Files) (faults faults' calls calls' n : ℕ) (indexes : Indexes) : Type 0 where
  pub same : told' ≡ told
  pub counted : faults' ≡ faults
  pub called : calls' ≡ calls_after n calls
  pub made : IfSome told (λ all. tables_of all (take n files) ≡ Ok indexes)
  pub start : length files ≡ 0 → indexes ≡ []

-- where a file of this number stands
pub record StandsAt (files : List Named) (n : ℕ) (named : Named) : Type 0 where
  pub within : n < length files
  pub count : n ≡ length (take n files)
  pub next : take (n + 1) files ≡ take n files ++ named ∷ []
  pub split : files ≡ take n files ++ named ∷ drop (n + 1) files

length_take : (n : ℕ) (xs : List Named) → n ≤ length xs → n ≡ length (take n xs)
length_take zero xs within = refl
length_take (suc n) [] within = absurd (omega (arith, within))
length_take (suc n) (x ∷ xs) within = ap suc (length_take n xs (omega (arith, within)))

take_next : (n : ℕ) (xs rest : List Named) (x : Named) → drop n xs ≡ x ∷ rest → take (suc n) xs ≡ take n xs ++ x ∷ []
take_next zero [] rest x is = let bad : [] ≡ x ∷ rest = is in cc
take_next zero (y ∷ xs) rest x is = let same : y ≡ x = cc in ap (λ (z : Named). z ∷ []) same
take_next (suc n) [] rest x is = let bad : [] ≡ x ∷ rest = is in cc
take_next (suc n) (y ∷ xs) rest x is = ap (λ l. y ∷ l) (take_next n xs rest x is)

pub length_map : (raw : List IndexFile) → length (map file_view raw) ≡ length raw
length_map [] = refl
length_map (x ∷ raw) = ap suc (length_map raw)

pub stands_at : (raw : List IndexFile) (n : ℕ) (d : IndexFile) → n < length raw → StandsAt (map file_view raw) n (file_view (slice_index_or raw n d))
stands_at raw n d within =
    let files = map file_view raw in
    let x : IndexFile = slice_index_or raw n d in
    let behind : drop n files ≡ file_view x ∷ drop (suc n) files =
    drop-map file_view n raw ∙ ap (map file_view) (drop-cons raw n d within) ∙ ap (λ l. file_view x ∷ l) (sym (drop-map file_view (suc n) raw)) in
    let inside : n < length files = omega (arith, within, length_map raw) in
    record {
      within = inside;
      count = length_take n files (omega (arith, inside));
      next = rw add-one (take_next n files _ _ behind);
      split = sym (take-append-drop n files) ∙ ap (λ l. take n files ++ l) (rw add-one behind);
    }

-- one file more was taken
pub took_more : (files : List Named) (told told' told'' : Option Files) (faults faults' faults'' calls calls' calls'' n : ℕ) (indexes indexes' : Indexes) (named : Named)
    → StandsAt files n named → Took files told told' faults faults' calls calls' n indexes → told'' ≡ told' → calls'' ≡ count_after calls'
    → Adds n named told' faults' faults'' indexes indexes' (Ok tt) → Took files told told'' faults faults'' calls calls'' (n + 1) indexes'
took_more files told told' told'' faults faults' faults'' calls calls' calls'' n indexes indexes' named stands took same called adds = record {
  same = same ∙ took.same;
  counted = adds.0 ∙ took.counted;
  called = rw add-one (called ∙ ap count_after took.called);
  made = both told _ _ _ one took.made (subst (λ (o : Option Files). IfSome o (λ all. with_file n indexes named.0 (file all named.1) ≡ Ok indexes')) took.same adds.1);
  start = λ none. absurd (omega (arith, none, stands.within));
}
  where
    one : (all : Files) → tables_of all (take n files) ≡ Ok indexes → with_file n indexes named.0 (file all named.1) ≡ Ok indexes' → tables_of all (take (n + 1) files) ≡ Ok indexes'
    one all made added =
        ap (tables_of all) stands.next ∙ at_file all (take n files) [] named n indexes stands.count made
        ∙ ap (λ (r : Result Indexes Status). then_on r (λ more. tables_from all (n + 1) more [])) added

-- all were taken
pub took_all : (files : List Named) (told told' : Option Files) (faults faults' calls calls' n : ℕ) (tables : Tables)
    → length files ≤ n → Took files told told' faults faults' calls calls' n (indexes_of tables) → MakesTables files told told' faults faults' calls calls' (Ok tables)
took_all files told told' faults faults' calls calls' n tables past took = (took.same, took.counted, by_files files told past took.made took.start)
  where
    whole : (fs : List Named) → length fs ≤ n → take n fs ≡ fs
    whole fs past = sym (sym (take-append-drop n fs) ∙ ap (λ l. take n fs ++ l) (drop_of_length-le fs past) ∙ append-nil (take n fs))

    by_files : (fs : List Named) (o : Option Files) → length fs ≤ n → IfSome o (λ all. tables_of all (take n fs) ≡ Ok (indexes_of tables)) → (length fs ≡ 0 → indexes_of tables ≡ [])
        → IfTold fs o (λ all. tables_of all fs ≡ Ok (indexes_of tables))
    by_files [] o past made start = ap Ok (sym (start refl))
    by_files (f ∷ fs) None past made start = tt
    by_files (f ∷ fs) (Some all) past made start = ap (tables_of all) (sym (whole (f ∷ fs) past)) ∙ made

-- what a status isn't
of_file : (status : Status) → IsFaultOfFile status → IsOfFiles status
of_file (Shelf fault) h = tt
of_file (BadIndex fault) h = tt
of_file Done h = h
of_file (Header error) h = h
of_file Usage h = h
of_file (NoTable encoding) h = h
of_file ReadFault h = h
of_file TooMuch h = h
of_file WriteFault h = h
of_file Memory h = tt
of_file (Quoted error) h = h

for_err : (r : Result Indexes Status) (Q : Status → Type 0) → ((status : Status) → Q status) → IfErr r Q
for_err (Ok indexes) Q f = tt
for_err (Err status) Q f = f status

-- a file gave none
pub took_refused : (files : List Named) (told told' told'' : Option Files) (faults faults' faults'' calls calls' calls'' n : ℕ) (indexes : Indexes) (named : Named) (status : Status)
    → StandsAt files n named → Took files told told' faults faults' calls calls' n indexes → told'' ≡ told' → calls'' ≡ count_after calls'
    → Refused n named told' faults' faults'' indexes status → MakesTables files told told'' faults faults'' calls calls'' (Err status)
took_refused files told told' told'' faults faults' faults'' calls calls' calls'' n indexes named status stands took same called (OfMemory is counted) =
    subst (λ (s : Status). MakesTables files told told'' faults faults'' calls calls'' (Err s)) (sym is) (
      tt,
      record {
        same = same ∙ took.same;
        counted = λ _. counted ∙ took.counted;
        failed = λ fault e _. cc;
        fault = λ h. absurd h;
        ends = told_always files told _ (λ all. for_err (tables_of all files) _ (λ _. inr (inl refl)));
      },
    )
took_refused files told told' told'' faults faults' faults'' calls calls' calls'' n indexes named status stands took same called (OfShelf is rose) =
    subst (λ (s : Status). MakesTables files told told'' faults faults'' calls calls'' (Err s)) (sym is) (
      tt,
      record {
        same = same ∙ took.same;
        counted = λ no. absurd (no refl);
        failed = λ fault e _. at_fault fault e;
        fault = λ h. let bad : false ≡ true = h in cc;
        ends = told_always files told _ (λ all. for_err (tables_of all files) _ (λ _. inr (inr refl)));
      },
    )
  where
    is_ok : (r : Result Indexes Status) → r ≡ Ok indexes → IsOk r
    is_ok (Ok more) e = refl
    is_ok (Err s) e = cc

    by_told : (o : Option Files) → IfSome o (λ all. tables_of all (take n files) ≡ Ok indexes) → IfSome o (λ all. IsOk (tables_of all (take n files)))
    by_told None h = tt
    by_told (Some all) h = is_ok (tables_of all (take n files)) h

    here : FailsAt files told faults faults'' calls calls'' n
    here = record {
      named = stands.within;
      rose = subst (λ (k : ℕ). Rose k faults'') took.counted rose;
      called = rw add-one (called ∙ ap count_after took.called);
      before = by_told told took.made;
    }

    at_fault : (fault : ShelfFault) → shelf_fault n false ≡ Shelf fault → FailsAt files told faults faults'' calls calls'' fault.file
    at_fault fault e =
        let told_fault : record { file = n; too_long = false } ≡ fault = cc in
        subst (λ (k : ℕ). FailsAt files told faults faults'' calls calls'' k) (ap (λ (f : ShelfFault). f.file) told_fault) here
took_refused files told told' told'' faults faults' faults'' calls calls' calls'' n indexes named status stands took same called (OfFile of_fault counted wanted) = (
  of_file status of_fault,
  record {
    same = same ∙ took.same;
    counted = λ _. counted ∙ took.counted;
    failed = λ fault e short. let long : fault.too_long ≡ true = subst IsFaultOfFile e of_fault in cc;
    fault = λ _. tables;
    ends = told_more files told _ _ (λ all h. by_tables (tables_of all files) h) tables;
  },
)
  where
    one : (all : Files) → tables_of all (take n files) ≡ Ok indexes → with_file n indexes named.0 (file all named.1) ≡ Err status → tables_of all files ≡ Err status
    one all made refused =
        ap (tables_of all) stands.split ∙ at_file all (take n files) (drop (n + 1) files) named n indexes stands.count made
        ∙ ap (λ (r : Result Indexes Status). then_on r (λ more. tables_from all (n + 1) more (drop (n + 1) files))) refused

    tables : IfTold files told (λ all. tables_of all files ≡ Err status)
    tables = told_some files told _ (omega (arith, stands.within))
        (both told _ _ _ one took.made (subst (λ (o : Option Files). IfSome o (λ all. with_file n indexes named.0 (file all named.1) ≡ Err status)) took.same wanted))

    by_tables : (r : Result Indexes Status) → r ≡ Err status → IfErr r (λ wanted. (status ≡ wanted) ⊎ (status ≡ Memory) ⊎ IsShelfFailure status)
    by_tables (Ok more) e = cc
    by_tables (Err s) e = let is : status ≡ s = cc in inl is

no_fault : (status : Status) → IsBehindFiles status → IsFaultOfFile status → ⊥
no_fault (Shelf fault) h e = h
no_fault (BadIndex fault) h e = h
no_fault Done h e = e
no_fault (Header error) h e = e
no_fault Usage h e = e
no_fault (NoTable encoding) h e = e
no_fault ReadFault h e = e
no_fault TooMuch h e = e
no_fault WriteFault h e = e
no_fault Memory h e = e
no_fault (Quoted error) h e = e

for_ok : (r : Result Indexes Status) (indexes : Indexes) (Q : Status → Type 0) → r ≡ Ok indexes → IfErr r Q
for_ok (Ok more) indexes Q e = tt
for_ok (Err status) indexes Q e = cc

pub takes_made : (files : List Named) (told told' : Option Files) (faults faults' calls calls' : ℕ) (tables : Tables) (status : Status)
    → MakesTables files told told' faults faults' calls calls' (Ok tables) → IsBehindFiles status → TakesFiles files told told' faults faults' calls calls' status
takes_made files told told' faults faults' calls calls' tables status made behind = record {
  same = made.0;
  counted = λ _. made.1;
  failed = λ fault e _. absurd (subst IsBehindFiles e behind);
  fault = λ h. absurd (no_fault status behind h);
  ends = told_more files told _ _ (λ all h. for_ok (tables_of all files) (indexes_of tables) _ h) made.2;
}

pub with_made : (files : List Named) (told told' : Option Files) (faults faults' calls calls' : ℕ) (tables : Tables) (status : Status) (P : Indexes → Type 0)
    → MakesTables files told told' faults faults' calls calls' (Ok tables) → P (indexes_of tables) → WithTables files told status P
with_made files told told' faults faults' calls calls' tables status P made holds =
    λ _. told_more files told _ _ (λ all h. by_tables (tables_of all files) h) made.2
  where
    by_tables : (r : Result Indexes Status) → r ≡ Ok (indexes_of tables) → IfOk r P
    by_tables (Ok more) e = let is : indexes_of tables ≡ more = cc in subst P is holds
    by_tables (Err s) e = tt

-- or ends at them
pub with_refused : (files : List Named) (told told' : Option Files) (faults faults' calls calls' : ℕ) (status : Status) (P : Status → Indexes → Type 0)
    → MakesTables files told told' faults faults' calls calls' (Err status) → ((indexes : Indexes) → P Memory indexes) → WithTables files told status (P status)
with_refused files told told' faults faults' calls calls' status P refused memory = by_status status refused.0 refused.1
  where
    no_tables : (s : Status) (r : Result Indexes Status) → r ≡ Err s → IfOk r (P s)
    no_tables s (Ok more) e = cc
    no_tables s (Err t) e = tt

    always : (r : Result Indexes Status) → IfOk r (P Memory)
    always (Ok more) = memory more
    always (Err t) = tt

    faulty : (s : Status) → IsFaultOfFile s → TakesFiles files told told' faults faults' calls calls' s → IfTold files told (λ all. IfOk (tables_of all files) (P s))
    faulty s h takes = told_more files told _ _ (λ all e. no_tables s (tables_of all files) e) (takes.fault h)

    by_length : (fault : ShelfFault) (long : Bool) → fault.too_long ≡ long → TakesFiles files told told' faults faults' calls calls' (Shelf fault) → WithTables files told (Shelf fault) (P (Shelf fault))
    by_length fault true is takes = λ _. faulty (Shelf fault) is takes
    by_length fault false is takes = λ no. absurd (no is)

    by_status : (s : Status) → IsOfFiles s → TakesFiles files told told' faults faults' calls calls' s → WithTables files told s (P s)
    by_status (Shelf fault) h takes = by_length fault fault.too_long refl takes
    by_status (BadIndex fault) h takes = λ _. faulty (BadIndex fault) tt takes
    by_status Memory h takes = λ _. told_always files told _ (λ all. always (tables_of all files))
    by_status Done h takes = absurd h
    by_status (Header error) h takes = absurd h
    by_status Usage h takes = absurd h
    by_status (NoTable encoding) h takes = absurd h
    by_status ReadFault h takes = absurd h
    by_status TooMuch h takes = absurd h
    by_status WriteFault h takes = absurd h
    by_status (Quoted error) h takes = absurd h

pub behind_no_usage : (status : Status) → IsBehindFiles status → status ≢ Usage
behind_no_usage status behind e = subst IsBehindFiles e behind

pub of_files_no_usage : (status : Status) → IsOfFiles status → status ≢ Usage
of_files_no_usage status of_files e = subst IsOfFiles e of_files

-- the counts of a source and a sink that weren't called
pub files_counts : (status : Status) (reads writes : ℕ) → IsOfFiles status → Counts status reads reads writes writes
files_counts status reads writes of_files = record {
  read_fault = λ e. absurd (subst IsOfFiles e of_files);
  source_count = λ _. refl;
  write_fault = λ e. absurd (subst IsOfFiles e of_files);
  sink_count = λ _. refl;
}

-- no memory for the words
pub with_memory : (files : List Named) (told : Option Files) (P : Indexes → Type 0) → ((indexes : Indexes) → P indexes) → WithTables files told Memory P
with_memory files told P memory = λ _. told_always files told _ (λ all. by_tables (tables_of all files))
  where
    by_tables : (r : Result Indexes Status) → IfOk r P
    by_tables (Ok indexes) = memory indexes
    by_tables (Err status) = tt

pub tells_memory : (missing : Option Encoding) → TellsTable missing Memory
tells_memory missing = record { table = λ encoding e. cc; no_table = by_missing missing }
  where
    by_missing : (m : Option Encoding) → IfSome m (λ encoding. (Memory ≡ NoTable encoding) ⊎ (Memory ≡ Memory))
    by_missing None = tt
    by_missing (Some encoding) = inr refl
