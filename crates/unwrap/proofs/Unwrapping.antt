-- How a stream is unwrapped.
use Rattle.std.proofs.Common.{◌≡◌, ◌⊎◌, ℕ, ◌≤◌, Option, Some, None, IfSome, List, [], ◌++◌, Result, Ok, Err, Vec, inl, inr, refl, sym, subst, ap, ◌∙◌, arith, rules, false, IfOk, IfErr}
use Rattle.std.specs.Prelude.{IsSome, IsSomeAnd, MatchResult, String, string_bytes, is_ok, nat_lt, if◌then◌else◌}
use Rattle.std.specs.Option.{option_map_or}
use Rattle.std.proofs.lemmas.Bool.Decides.{nat_tests}
use Rattle.std.specs.declared.alloc.Global.{Global}
use Rattle.std.proofs.KnownBytes.{Consumes-nil}
use Rattle.enc_front.specs.Indexes.{Indexes}
use Rattle.enc_front.specs.declared.encoding.Encoding.{Encoding}
use Rattle.enc_io.specs.BuilderView.{build_error}
use Rattle.enc_io.specs.declared.builder.BuildError.{BuildError}
use Rattle.enc_io.specs.declared.builder.BuildError.TheVariants as build
use Rattle.enc_io.specs.Options.{Options, unknown_encoding}
use Rattle.enc_io.specs.Reader.{ReaderStanding, fresh, still}
use Rattle.enc_io.specs.Text.{stream_text}
use Rattle.enc_io.proofs.ReaderLemmas.{still_fresh}
use Rattle.words.specs.declared.decoder.Error.{Error}
use Rattle.words.specs.declared.decoder.Error.TheVariants as words
use Rattle.words.specs.declared.strategy.RecoverStrategy.{RecoverStrategy}
use Rattle.words.specs.Fault.{HeaderFault, fault_of}
use Rattle.words.specs.Header.{header}
use Rattle.unwrap.specs.declared.header.HeaderError.{HeaderError}
use Rattle.unwrap.specs.declared.header.HeaderError.TheVariants as error
use Rattle.unwrap.specs.declared.status.ReadError.{ReadError}
use Rattle.unwrap.specs.declared.status.ReadError.TheVariants as read
use Rattle.unwrap.specs.declared.text.CopyFault.{CopyFault}
use Rattle.unwrap.specs.declared.text.CopyFault.TheVariants as copy
use Rattle.unwrap.specs.Copies.{Copies, CopiesAll, StopsAtFault, StopsAtLimit, StopsAtSink}
use Rattle.unwrap.specs.declared.status.Status.{Status}
use Rattle.unwrap.specs.declared.status.Status.TheVariants as ended
use Rattle.unwrap.specs.Status.{IsBeforeSource, TellsTable}
use Rattle.unwrap.proofs.Delivered.{tells_written}
use Rattle.unwrap.specs.Delivers.{HasRead, InHeader, IsRefused, Makes, NeedsTable}
use Rattle.unwrap.specs.Header.{header_value, shown}
use Rattle.unwrap.specs.HeaderErrors as errors
use Rattle.unwrap.specs.HeaderErrors.{IsNoTable, copy_error, error_status, read_error, words_error}
use Rattle.unwrap.specs.Made.{Tells}
use Rattle.unwrap.specs.Moves.{LosesAtMost}
use Rattle.unwrap.specs.Unwraps.{HasFault, ReadsStream, Shows, Unwraps, header_of}
use Rattle.unwrap.proofs.Streaming.{fresh_lost, fresh_passed, fresh_whole}

-- the text of a stream that is read into a vector
pub read_all_text : (o : Options) (i : Indexes) (room : ℕ) (left : Option (List ℕ)) (faults calls : ℕ) (before after : ReaderStanding) (start : List ℕ) (bytes : Vec ℕ Global) (n : ℕ)
    → before ≡ fresh o i room left faults calls → start ≡ [] → CopiesAll before after (Some start) (Some bytes.items) n
    → ReadsStream o i left after.left faults after.faults (Ok bytes)
read_all_text o i room left faults calls before after start bytes n is none all =
    by_fresh (subst (λ (t : List ℕ). CopiesAll (fresh o i room left faults calls) after (Some t) (Some bytes.items) n) none
    (subst (λ (b : ReaderStanding). CopiesAll b after (Some start) (Some bytes.items) n) is all))
  where
    text_is : (l : Option (List ℕ)) (text : List ℕ) → bytes.items ≡ text → IfSome l (λ s. still (fresh o i room left faults calls) s ≡ text) → IfSome l (λ s. stream_text o i s ≡ bytes.items)
    text_is None text written whole = tt
    text_is (Some s) text written whole = sym (still_fresh o i room left faults calls s) ∙ whole ∙ sym written

    by_fresh : CopiesAll (fresh o i room left faults calls) after (Some []) (Some bytes.items) n → ReadsStream o i left after.left faults after.faults (Ok bytes)
    by_fresh all = (
      all.goes_on.same_faults,
      record {
        drained = all.drained;
        within = fresh_whole o i room left faults calls after all.text all.goes_on.moves all.goes_on.within all.drained;
        given = fresh_lost o i room left faults calls after all.text all.goes_on.moves all.goes_on.within;
      },
      text_is left all.text all.written all.whole,
    )

pub read_fault : (o : Options) (i : Indexes) (room : ℕ) (left taken taken' : Option (List ℕ)) (faults calls : ℕ) (before after : ReaderStanding)
    → before ≡ fresh o i room left faults calls → StopsAtFault before after taken taken' → ReadsStream o i left after.left faults after.faults (Err read.ReadFault)
read_fault o i room left taken taken' faults calls before after is stop =
    by_fresh (subst (λ (b : ReaderStanding). StopsAtFault b after taken taken') is stop)
  where
    by_fresh : StopsAtFault (fresh o i room left faults calls) after taken taken' → ReadsStream o i left after.left faults after.faults (Err read.ReadFault)
    by_fresh stop = (stop.rose, fresh_lost o i room left faults calls after stop.text stop.moves stop.within)

pub read_limit : (o : Options) (i : Indexes) (room : ℕ) (left taken taken' : Option (List ℕ)) (faults calls : ℕ) (before after : ReaderStanding)
    → before ≡ fresh o i room left faults calls → StopsAtLimit before after taken taken' → ReadsStream o i left after.left faults after.faults (Err read.TooMuch)
read_limit o i room left taken taken' faults calls before after is stop =
    by_fresh (subst (λ (b : ReaderStanding). StopsAtLimit b after taken taken') is stop)
  where
    by_fresh : StopsAtLimit (fresh o i room left faults calls) after taken taken' → ReadsStream o i left after.left faults after.faults (Err read.TooMuch)
    by_fresh stop = (stop.same_faults, fresh_passed o i room left faults calls after (stop.text ++ stop.lost) stop.moves stop.passed stop.at_most)

pub read_memory : (o : Options) (i : Indexes) (room : ℕ) (left taken taken' : Option (List ℕ)) (faults calls : ℕ) (before after : ReaderStanding) (piece : ℕ)
    → before ≡ fresh o i room left faults calls → StopsAtSink before after taken taken' piece → ReadsStream o i left after.left faults after.faults (Err read.Memory)
read_memory o i room left taken taken' faults calls before after piece is stop =
    by_fresh (subst (λ (b : ReaderStanding). StopsAtSink b after taken taken' piece) is stop)
  where
    by_fresh : StopsAtSink (fresh o i room left faults calls) after taken taken' piece → ReadsStream o i left after.left faults after.faults (Err read.Memory)
    by_fresh stop = (stop.goes_on.same_faults, fresh_lost o i room left faults calls after stop.text stop.goes_on.moves stop.goes_on.within)

pub read_stopped : (o : Options) (i : Indexes) (room : ℕ) (left taken taken' : Option (List ℕ)) (faults calls : ℕ) (before after : ReaderStanding) (piece : ℕ) (fault : CopyFault)
    → before ≡ fresh o i room left faults calls → Copies before after taken taken' piece (Err fault) → ReadsStream o i left after.left faults after.faults (Err (copy_error fault))
read_stopped o i room left taken taken' faults calls before after piece copy.ReadFault is stop = read_fault o i room left taken taken' faults calls before after is stop
read_stopped o i room left taken taken' faults calls before after piece copy.TooMuch is stop = read_limit o i room left taken taken' faults calls before after is stop
read_stopped o i room left taken taken' faults calls before after piece copy.WriteFault is stop = read_memory o i room left taken taken' faults calls before after piece is stop

-- the source as it stands then
pub at_source : (o : Options) (i : Indexes) (left l l' : Option (List ℕ)) (faults n n' : ℕ) (text : Result (Vec ℕ Global) ReadError) → l' ≡ l → n' ≡ n
    → ReadsStream o i left l faults n text → ReadsStream o i left l' faults n' text
at_source o i left l l' faults n n' text same same_count h =
    subst (λ (x : Option (List ℕ)). ReadsStream o i left x faults n' text) (sym same) (subst (λ (k : ℕ). ReadsStream o i left l faults k text) (sym same_count) h)

-- the header text of what was read
pub shows_text : (strategy : RecoverStrategy) (o : Options) (i : Indexes) (left left' : Option (List ℕ)) (faults faults' : ℕ) (bytes : Vec ℕ Global) (text : String Global)
    → ReadsStream o i left left' faults faults' (Ok bytes) → header strategy i bytes.items ≡ Ok (string_bytes text)
    → Shows (header_of strategy o i) o.limit left left' faults faults' (Ok text)
shows_text strategy o i left left' faults faults' bytes text reads is = (reads.0, reads.1, by_left left reads.2)
  where
    by_left : (l : Option (List ℕ)) → IfSome l (λ s. stream_text o i s ≡ bytes.items) → IfSome l (λ s. header_of strategy o i s ≡ Ok (string_bytes text))
    by_left None h = tt
    by_left (Some s) h = ap (header strategy i) h ∙ is

-- or why there is none
shows_fault : (strategy : RecoverStrategy) (o : Options) (i : Indexes) (left left' : Option (List ℕ)) (faults faults' : ℕ) (bytes : Vec ℕ Global) (told : Option HeaderFault)
    → ReadsStream o i left left' faults faults' (Ok bytes) → IsSomeAnd told (λ fault. header strategy i bytes.items ≡ Err fault)
    → HasFault (header_of strategy o i) o.limit left left' faults faults' told
shows_fault strategy o i left left' faults faults' bytes None reads h = absurd h
shows_fault strategy o i left left' faults faults' bytes (Some fault) reads h = (reads.0, reads.1, by_left left reads.2)
  where
    by_left : (l : Option (List ℕ)) → IfSome l (λ s. stream_text o i s ≡ bytes.items) → IfSome l (λ s. header_of strategy o i s ≡ Err fault)
    by_left None e = tt
    by_left (Some s) e = ap (header strategy i) e ∙ h

pub shows_error : (strategy : RecoverStrategy) (o : Options) (i : Indexes) (left left' : Option (List ℕ)) (faults faults' : ℕ) (bytes : Vec ℕ Global) (e : Error)
    → ReadsStream o i left left' faults faults' (Ok bytes) → (e ≡ words.Memory) ⊎ IsSomeAnd (fault_of e) (λ fault. header strategy i bytes.items ≡ Err fault)
    → Shows (header_of strategy o i) o.limit left left' faults faults' (Err (words_error e))
shows_error strategy o i left left' faults faults' bytes words.Memory reads h = (reads.0, reads.1.given)
shows_error strategy o i left left' faults faults' bytes (words.Lexer e) reads (inl memory) = absurd (let bad : words.Lexer e ≡ words.Memory = memory in cc)
shows_error strategy o i left left' faults faults' bytes (words.Lexer e) reads (inr h) = shows_fault strategy o i left left' faults faults' bytes _ reads h
shows_error strategy o i left left' faults faults' bytes (words.Parser e) reads (inl memory) = absurd (let bad : words.Parser e ≡ words.Memory = memory in cc)
shows_error strategy o i left left' faults faults' bytes (words.Parser e) reads (inr h) = shows_fault strategy o i left left' faults faults' bytes _ reads h
shows_error strategy o i left left' faults faults' bytes (words.Evaluator e) reads (inl memory) = absurd (let bad : words.Evaluator e ≡ words.Memory = memory in cc)
shows_error strategy o i left left' faults faults' bytes (words.Evaluator e) reads (inr h) = shows_fault strategy o i left left' faults faults' bytes _ reads h

pub shows_none : (strategy : RecoverStrategy) (o : Options) (i : Indexes) (left left' : Option (List ℕ)) (faults faults' : ℕ) (e : ReadError)
    → ReadsStream o i left left' faults faults' (Err e) → Shows (header_of strategy o i) o.limit left left' faults faults' (Err (read_error e))
shows_none strategy o i left left' faults faults' read.ReadFault h = h
shows_none strategy o i left left' faults faults' read.TooMuch h = h
shows_none strategy o i left left' faults faults' read.Memory h = h

-- what comes of it where every index is there
pub unwraps : (missing : Option Encoding) (value : List ℕ → Result (List ℕ) HeaderFault) (limit : ℕ) (left left' : Option (List ℕ)) (faults faults' : ℕ)
    (answer : Result (String Global) HeaderError) → missing ≡ None → Shows value limit left left' faults faults' answer → Unwraps missing value limit left left' faults faults' answer
unwraps missing value limit left left' faults faults' (Ok text) none h = (none, h)
unwraps missing value limit left left' faults faults' (Err error.Memory) none h = h
unwraps missing value limit left left' faults faults' (Err error.ReadFault) none h = (none, h)
unwraps missing value limit left left' faults faults' (Err error.TooMuch) none h = (none, h)
unwraps missing value limit left left' faults faults' (Err (error.Lexer e)) none h = (none, h)
unwraps missing value limit left left' faults faults' (Err (error.Parser e)) none h = (none, h)
unwraps missing value limit left left' faults faults' (Err (error.Evaluator e)) none h = (none, h)
unwraps missing value limit left left' faults faults' (Err (error.NoTable e)) none h = absurd h

-- where a reader isn't built
pub unwraps_refused : (o : Options) (i : Indexes) (room : ℕ) (value : List ℕ → Result (List ℕ) HeaderFault) (left : Option (List ℕ)) (faults : ℕ) (e : BuildError) → 4 ≤ room
    → build_error o i room ≡ Some e → Unwraps (unknown_encoding o i) value o.limit left left faults faults (Err (errors.build_error e))
unwraps_refused o i room value left faults e enough refused = by_missing (unknown_encoding o i) refl refused
  where
    small : nat_lt room 4 ≡ false
    small = grind (arith, nat_tests)

    by_missing : (missing : Option Encoding) → unknown_encoding o i ≡ missing
        → option_map_or (λ encoding. Some (build.NoTable encoding)) missing (if nat_lt room 4 then Some (build.TooSmall room) else None) ≡ Some e
        → Unwraps (unknown_encoding o i) value o.limit left left faults faults (Err (errors.build_error e))
    by_missing None is same = let bad : None ≡ Some e = rw small at same in cc
    by_missing (Some encoding) is same =
        let told : build.NoTable encoding ≡ e = cc in
        subst (λ (x : BuildError). Unwraps (unknown_encoding o i) value o.limit left left faults faults (Err (errors.build_error x))) told (is, refl, refl)

-- what is written of it
has_fault : (strategy : RecoverStrategy) (o : Options) (i : Indexes) (left left' : Option (List ℕ)) (faults faults' : ℕ) (e : Error)
    → unknown_encoding o i ≡ None → HasFault (header_of strategy o i) o.limit left left' faults faults' (fault_of e)
    → (faults' ≡ faults) × HasRead o.limit left left' × IsSome (fault_of e) × IfSome left (λ s. IsSomeAnd (fault_of e) (λ fault. shown strategy o i s ≡ Err (InHeader fault)))
has_fault strategy o i left left' faults faults' e none h = (h.0, h.1, some_told (fault_of e) h.2, by_told (fault_of e) h.2)
  where
    some_told : (told : Option HeaderFault) → IsSomeAnd told (λ fault. IfSome left (λ s. header_of strategy o i s ≡ Err fault)) → IsSome told
    some_told None x = absurd x
    some_told (Some fault) x = search rules

    by_left : (fault : HeaderFault) (l : Option (List ℕ)) → IfSome l (λ s. header_of strategy o i s ≡ Err fault) → IfSome l (λ s. shown strategy o i s ≡ Err (InHeader fault))
    by_left fault None x = tt
    by_left fault (Some s) x = ap (λ (m : Option Encoding). option_map_or (λ encoding. Err (NeedsTable encoding)) m (header_value (header_of strategy o i s))) none ∙ ap header_value x

    by_told : (told : Option HeaderFault) → IsSomeAnd told (λ fault. IfSome left (λ s. header_of strategy o i s ≡ Err fault))
        → IfSome left (λ s. IsSomeAnd told (λ fault. shown strategy o i s ≡ Err (InHeader fault)))
    by_told None x = absurd x
    by_told (Some fault) x = by_left fault left x

pub makes_unwrapped : (strategy : RecoverStrategy) (o : Options) (i : Indexes) (left left' : Option (List ℕ)) (faults faults' : ℕ)
    (answer : Result (String Global) HeaderError) (result : Result (Vec ℕ Global) Status)
    → Unwraps (unknown_encoding o i) (header_of strategy o i) o.limit left left' faults faults' answer
    → IfOk result (λ bytes. IfOk answer (λ text. bytes.items ≡ string_bytes text)) → is_ok result ≡ is_ok answer
    → IfErr result (λ status. IfErr answer (λ e. status ≡ error_status e)) → Makes (shown strategy o i) o.limit left left' faults faults' result
makes_unwrapped strategy o i left left' faults faults' (Ok text) (Ok bytes) h items same told = (h.1.0, h.1.1, by_left left h.1.2)
  where
    by_left : (l : Option (List ℕ)) → IfSome l (λ s. header_of strategy o i s ≡ Ok (string_bytes text)) → IfSome l (λ s. shown strategy o i s ≡ Ok bytes.items)
    by_left None x = tt
    by_left (Some s) x = ap (λ (m : Option Encoding). option_map_or (λ encoding. Err (NeedsTable encoding)) m (header_value (header_of strategy o i s))) h.0 ∙ ap header_value x ∙ ap Ok (sym items)
makes_unwrapped strategy o i left left' faults faults' (Ok text) (Err status) h items same told = cc
makes_unwrapped strategy o i left left' faults faults' (Err e) (Ok bytes) h items same told = cc
makes_unwrapped strategy o i left left' faults faults' (Err e) (Err status) h items same told =
    subst (IsRefused (shown strategy o i) o.limit left left' faults faults') (sym told) (refused e h)
  where
    refused : (e : HeaderError) → Unwraps (unknown_encoding o i) (header_of strategy o i) o.limit left left' faults faults' (Err e)
        → IsRefused (shown strategy o i) o.limit left left' faults faults' (error_status e)
    refused error.Memory x = x
    refused (error.NoTable encoding) x = (x.2, subst (λ (l : Option (List ℕ)). LosesAtMost left l o.limit) (sym x.1) ([], Consumes-nil left, omega arith), by_left left)
      where
        by_left : (l : Option (List ℕ)) → IfSome l (λ s. shown strategy o i s ≡ Err (NeedsTable encoding))
        by_left None = tt
        by_left (Some s) = ap (λ (m : Option Encoding). option_map_or (λ encoding. Err (NeedsTable encoding)) m (header_value (header_of strategy o i s))) x.0
    refused error.ReadFault x = x.1
    refused error.TooMuch x = x.1
    refused (error.Lexer e) x = has_fault strategy o i left left' faults faults' (words.Lexer e) x.0 x.1
    refused (error.Parser e) x = has_fault strategy o i left left' faults faults' (words.Parser e) x.0 x.1
    refused (error.Evaluator e) x = has_fault strategy o i left left' faults faults' (words.Evaluator e) x.0 x.1

-- whether an index is missing
pub tables_unwrapped : (missing : Option Encoding) (value : List ℕ → Result (List ℕ) HeaderFault) (limit : ℕ) (left left' : Option (List ℕ)) (faults faults' : ℕ)
    (answer : Result (String Global) HeaderError) (result : Result (Vec ℕ Global) Status) → Unwraps missing value limit left left' faults faults' answer
    → is_ok result ≡ is_ok answer → IfErr result (λ status. IfErr answer (λ e. status ≡ error_status e)) → MatchResult result (λ _. missing ≡ None) (TellsTable missing)
tables_unwrapped missing value limit left left' faults faults' (Ok text) (Ok bytes) h same told = h.0
tables_unwrapped missing value limit left left' faults faults' (Ok text) (Err status) h same told = cc
tables_unwrapped missing value limit left left' faults faults' (Err e) (Ok bytes) h same told = cc
tables_unwrapped missing value limit left left' faults faults' (Err e) (Err status) h same told = subst (TellsTable missing) (sym told) (by_error e h)
  where
    memory : (m : Option Encoding) → IfSome m (λ encoding. (ended.Memory ≡ ended.NoTable encoding) ⊎ (ended.Memory ≡ ended.Memory))
    memory None = tt
    memory (Some encoding) = inr refl

    by_error : (e : HeaderError) → Unwraps missing value limit left left' faults faults' (Err e) → TellsTable missing (error_status e)
    by_error error.Memory x = record { table = λ encoding e. cc; no_table = memory missing }
    by_error (error.NoTable encoding) x = record {
      table = λ other e. let is : encoding ≡ other = cc in x.0 ∙ ap Some is;
      no_table = subst (λ (m : Option Encoding). IfSome m (λ other. (ended.NoTable encoding ≡ ended.NoTable other) ⊎ (ended.NoTable encoding ≡ ended.Memory))) (sym x.0) (inl refl);
    }
    by_error error.ReadFault x = tells_written missing ended.ReadFault x.0 (λ h. h)
    by_error error.TooMuch x = tells_written missing ended.TooMuch x.0 (λ h. h)
    by_error (error.Lexer e) x = tells_written missing (error_status (error.Lexer e)) x.0 (λ h. h)
    by_error (error.Parser e) x = tells_written missing (error_status (error.Parser e)) x.0 (λ h. h)
    by_error (error.Evaluator e) x = tells_written missing (error_status (error.Evaluator e)) x.0 (λ h. h)

-- and the source is then as it was
pub unread_unwrapped : (P : Type 0) (answer : Result (String Global) HeaderError) (result : Result (Vec ℕ Global) Status) → IfErr answer (λ e. IsNoTable e → P)
    → is_ok result ≡ is_ok answer → IfErr result (λ status. IfErr answer (λ e. status ≡ error_status e)) → IfErr result (λ status. IsBeforeSource status → P)
unread_unwrapped P (Ok text) (Ok bytes) h same told = tt
unread_unwrapped P (Ok text) (Err status) h same told = cc
unread_unwrapped P (Err e) (Ok bytes) h same told = tt
unread_unwrapped P (Err e) (Err status) h same told = λ before. h (by_error e (subst IsBeforeSource told before))
  where
    by_error : (e : HeaderError) → IsBeforeSource (error_status e) → IsNoTable e
    by_error error.Memory x = x
    by_error (error.NoTable encoding) x = tt
    by_error error.ReadFault x = x
    by_error error.TooMuch x = x
    by_error (error.Lexer e) x = x
    by_error (error.Parser e) x = x
    by_error (error.Evaluator e) x = x

-- a reader that was built has no index missing
pub shown_has_table : (value : List ℕ → Result (List ℕ) HeaderFault) (limit : ℕ) (left left' : Option (List ℕ)) (faults faults' : ℕ) (P : Type 0)
    (answer : Result (String Global) HeaderError) → Shows value limit left left' faults faults' answer → IfErr answer (λ e. IsNoTable e → P)
shown_has_table value limit left left' faults faults' P (Ok text) h = tt
shown_has_table value limit left left' faults faults' P (Err error.Memory) h = λ x. absurd x
shown_has_table value limit left left' faults faults' P (Err (error.NoTable encoding)) h = absurd h
shown_has_table value limit left left' faults faults' P (Err error.ReadFault) h = λ x. absurd x
shown_has_table value limit left left' faults faults' P (Err error.TooMuch) h = λ x. absurd x
shown_has_table value limit left left' faults faults' P (Err (error.Lexer e)) h = λ x. absurd x
shown_has_table value limit left left' faults faults' P (Err (error.Parser e)) h = λ x. absurd x
shown_has_table value limit left left' faults faults' P (Err (error.Evaluator e)) h = λ x. absurd x

-- what is told of a header whose encoding isn't asked for
pub told_reads : (missing : Option Encoding) (value : List ℕ → Result (List ℕ) HeaderFault) (limit : ℕ) (left left' : Option (List ℕ)) (faults faults' input : ℕ)
    (answer : Result (String Global) HeaderError) (result : Result (Vec ℕ Global) Status) → missing ≡ None → Unwraps missing value limit left left' faults faults' answer
    → Tells input answer result → IfErr result (λ status. IsBeforeSource status → ⊥)
told_reads missing value limit left left' faults faults' input answer (Ok bytes) none h told = tt
told_reads missing value limit left left' faults faults' input (Ok text) (Err status) none h told = λ x. subst IsBeforeSource told x
told_reads missing value limit left left' faults faults' input (Err e) (Err status) none h told = λ x. by_error e h (subst IsBeforeSource told x)
  where
    by_error : (e : HeaderError) → Unwraps missing value limit left left' faults faults' (Err e) → IsBeforeSource (error_status e) → ⊥
    by_error error.Memory h x = x
    by_error (error.NoTable encoding) h x = let bad : None ≡ Some encoding = sym none ∙ h.0 in cc
    by_error error.ReadFault h x = x
    by_error error.TooMuch h x = x
    by_error (error.Lexer e) h x = x
    by_error (error.Parser e) h x = x
    by_error (error.Evaluator e) h x = x
