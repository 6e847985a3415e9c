-- How the command that streams ends.
use Rattle.std.proofs.Common.{◌≡◌, ◌≢◌, ◌⊎◌, ℕ, ◌+◌, ◌*◌, ◌<◌, ◌≤◌, Option, Some, None, IfSome, List, [], ◌++◌, length, Result, Ok, Err, Bool, true, false, inl, inr, refl, sym, subst, ap, ◌∙◌, arith, take, drop, append_assoc, append-nil, length-append, length-drop, length-take, take-append-drop, true≢false}
use Rattle.std.proofs.Math.Seq.{take-append_seam}
use Rattle.std.specs.Prelude.{nat_lt, if◌then◌else◌}
use Rattle.std.specs.Option.{option_map_or}
use Rattle.std.proofs.lemmas.Bool.Decides.{nat_tests}
use Rattle.std.proofs.lemmas.List.Elements.{All-nil}
use Rattle.std.proofs.KnownBytes.{Consumes-nil}
use Rattle.std.specs.Io.{StartsWith}
use Rattle.std.specs.Io.KnownBytes.{Appends, IsAtEnd}
use Rattle.enc_drivers.specs.Units.{AreBytes}
use Rattle.enc_front.specs.Indexes.{Indexes}
use Rattle.enc_front.specs.declared.encoding.Encoding.{Encoding}
use Rattle.enc_io.specs.Faults.{Rose}
use Rattle.enc_io.specs.BuilderView.{build_error}
use Rattle.enc_io.specs.declared.builder.BuildError.{BuildError}
use Rattle.enc_io.specs.declared.builder.BuildError.TheVariants as build
use Rattle.enc_io.specs.Options.{Options, unknown_encoding}
use Rattle.enc_io.specs.Reader.{ReaderStanding, fresh, still, still_behind, HasTooMuch}
use Rattle.enc_io.specs.ReaderCalls.{Moves}
use Rattle.enc_io.specs.Text.{chosen, stream_text}
use Rattle.enc_io.proofs.ChoiceLemmas.{chosen_front}
use Rattle.enc_io.proofs.ReaderLemmas.{still_fresh, still_on}
use Rattle.unwrap.specs.declared.status.Status.{Status}
use Rattle.unwrap.specs.declared.status.Status.TheVariants.{Done, NoTable, ReadFault, TooMuch, WriteFault, Memory}
use Rattle.unwrap.specs.declared.text.CopyFault.{CopyFault}
use Rattle.unwrap.specs.declared.text.CopyFault.TheVariants as fault
use Rattle.unwrap.specs.Copies.{Copies, StopsAtFault, StopsAtSink}
use Rattle.unwrap.specs.Moves.{AppendsPrefix, Loses, LosesAtMost}
use Rattle.unwrap.specs.Status.{Counts, IsBeforeSource, IsBehindFiles, build_status}
use Rattle.unwrap.specs.Streams.{EndsCopy, Streams, Writing, WritesAllBut, WritesAllGiven, copy_status, writing}
use Rattle.unwrap.proofs.Appended.{of_whole}

-- what the source of a fresh reader lost
pub fresh_lost : (o : Options) (i : Indexes) (room : ℕ) (left : Option (List ℕ)) (faults calls : ℕ) (after : ReaderStanding) (given : List ℕ)
    → Moves (fresh o i room left faults calls) after given → after.taken ≤ after.options.limit → LosesAtMost left after.left o.limit
fresh_lost o i room left faults calls after given moves within =
    (moves.moved, moves.consumed, omega (arith, moves.taken, ap (λ (x : Options). x.limit) moves.same_options))

pub fresh_passed : (o : Options) (i : Indexes) (room : ℕ) (left : Option (List ℕ)) (faults calls : ℕ) (after : ReaderStanding) (given : List ℕ)
    → Moves (fresh o i room left faults calls) after given → HasTooMuch after → after.taken ≤ after.options.limit + 1 → Loses left after.left (o.limit + 1)
fresh_passed o i room left faults calls after given moves passed at_most =
    (moves.moved, moves.consumed, omega (arith, moves.taken, passed, ap (λ (x : Options). x.limit) moves.same_options))

pub fresh_whole : (o : Options) (i : Indexes) (room : ℕ) (left : Option (List ℕ)) (faults calls : ℕ) (after : ReaderStanding) (given : List ℕ)
    → Moves (fresh o i room left faults calls) after given → after.taken ≤ after.options.limit → IsAtEnd after.left → IfSome left (λ s. length s ≤ o.limit)
fresh_whole o i room left faults calls after given moves within end =
    of_whole left after.left moves.moved moves.consumed end (λ s. length s ≤ o.limit) (omega (arith, moves.taken, ap (λ (x : Options). x.limit) moves.same_options))

-- a prefix of what a fresh reader gives is one of the stream's text
fresh_prefix : (o : Options) (i : Indexes) (room : ℕ) (left0 left : Option (List ℕ)) (faults calls : ℕ) (taken taken' : Option (List ℕ)) (P : List ℕ → Type 0)
    → IfSome left P → ((s : List ℕ) → P s → AreBytes s → AppendsPrefix taken taken' (still (fresh o i room left0 faults calls) s))
    → IfSome left (λ s. AreBytes s → AppendsPrefix taken taken' (stream_text o i s))
fresh_prefix o i room left0 None faults calls taken taken' P h f = tt
fresh_prefix o i room left0 (Some s) faults calls taken taken' P h f =
    λ are. subst (AppendsPrefix taken taken') (still_fresh o i room left0 faults calls s) (f s h are)

-- all of it
fresh_text : (o : Options) (i : Indexes) (room : ℕ) (left0 left : Option (List ℕ)) (faults calls : ℕ) (taken taken' : Option (List ℕ)) (text : List ℕ)
    → IfSome left (λ s. still (fresh o i room left0 faults calls) s ≡ text) → Appends taken taken' text
    → IfSome left (λ s. Appends taken taken' (stream_text o i s))
fresh_text o i room left0 None faults calls taken taken' text whole written = tt
fresh_text o i room left0 (Some s) faults calls taken taken' text whole written =
    subst (Appends taken taken') (sym whole ∙ still_fresh o i room left0 faults calls s) written

-- a prefix of a prefix
front_of : (xs text front : List ℕ) → StartsWith xs text → StartsWith text front → StartsWith xs front
front_of xs text front first next =
    let cut : xs ≡ text ++ drop (length text) xs = sym (take-append-drop (length text) xs) ∙ ap (λ l. l ++ drop (length text) xs) first in
    let cut' : text ≡ front ++ drop (length front) text = sym (take-append-drop (length front) text) ∙ ap (λ l. l ++ drop (length front) text) next in
    ap (take (length front)) (cut ∙ ap (λ l. l ++ drop (length text) xs) cut' ∙ append_assoc front (drop (length front) text) (drop (length text) xs))
    ∙ take-append_seam front (drop (length front) text ++ drop (length text) xs)

always : (left : Option (List ℕ)) (P : List ℕ → Type 0) → ((s : List ℕ) → P s) → IfSome left P
always None P h = tt
always (Some s) P h = h s

too_long : (left left' : Option (List ℕ)) (most : ℕ) → Loses left left' (most + 1)
    → IfSome left (λ s. length s ≤ most → TooMuch ≢ ReadFault → TooMuch ≢ WriteFault → (TooMuch ≡ Done) ⊎ (TooMuch ≡ Memory))
too_long None left' most lost = tt
too_long (Some s) None most lost = absurd lost.1
too_long (Some s) (Some rest) most lost = λ few _ _. absurd (omega (arith, ap length lost.1, length-append lost.0 rest, lost.2))

-- the text of the bytes that a fresh reader's source gave is what was handed out and what waits
given_text : (o : Options) (i : Indexes) (room : ℕ) (left : Option (List ℕ)) (faults calls : ℕ) (after : ReaderStanding) (text : List ℕ)
    (moves : Moves (fresh o i room left faults calls) after text) → stream_text o i moves.moved ≡ text ++ still after []
given_text o i room left faults calls after text moves =
    sym (still_fresh o i room left faults calls moves.moved) ∙ ap (still (fresh o i room left faults calls)) (sym (append-nil moves.moved))
    ∙ moves.equation [] (All-nil (λ x. x < 256)) (λ _. refl)

-- where bytes pass as they are, and none are kept, nothing waits
nothing_waits : (at : ReaderStanding) → at.detected ≡ true → at.tiny ≡ [] → at.buffered ≡ [] → at.decoder ≡ None → at.peeker.waiting ≡ [] → still at [] ≡ []
unfolding still_behind
nothing_waits at detected none_waits empty none waiting =
    still_on at [] detected
    ∙ ap (λ l. l ++ still_behind at.decoder (at.buffered ++ (at.peeker.waiting ++ []))) none_waits
    ∙ ap (λ d. still_behind d (at.buffered ++ (at.peeker.waiting ++ []))) none
    ∙ ap (λ l. l ++ (at.peeker.waiting ++ [])) empty
    ∙ ap (λ l. l ++ []) waiting

-- three bytes tell which encoding is chosen
chosen_by_three : (o : Options) (bytes : List ℕ) → 3 ≤ length bytes → chosen o (take 3 bytes) ≡ chosen o bytes
chosen_by_three o bytes three =
    sym (chosen_front o false (take 3 bytes) (drop 3 bytes) (λ _. omega (arith, length-take 3 bytes, three)) (λ e. absurd (true≢false (sym e))))
    ∙ ap (chosen o) (take-append-drop 3 bytes)

-- a read failed: almost all of the text of the bytes that were given is written
almost_all : (o : Options) (i : Indexes) (room piece : ℕ) (left : Option (List ℕ)) (faults calls : ℕ) (after : ReaderStanding) (taken taken' : Option (List ℕ))
    → StopsAtFault (fresh o i room left faults calls) after taken taken' → WritesAllGiven (writing o i room piece) left after.left taken taken'
almost_all o i room piece left faults calls after taken taken' stop = record {
  nearly = record {
    given = stop.moves.moved;
    front = stop.text;
    behind = still after [];
    consumed = stop.moves.consumed;
    written = stop.written;
    whole = given_text o i room left faults calls after stop.text stop.moves;
    few = stop.few;
  };
  all = λ three none. by_detected after.detected refl three none;
}
  where
    by_detected : (detected : Bool) → after.detected ≡ detected → 3 ≤ length stop.moves.moved → chosen o stop.moves.moved ≡ None → still after [] ≡ []
    by_detected true e three none =
        let passes : chosen after.options after.peeker.gathered ≡ None =
        ap (λ (x : Options). chosen x after.peeker.gathered) stop.moves.same_options ∙ ap (chosen o) stop.moves.gathered ∙ chosen_by_three o stop.moves.moved three ∙ none in
        nothing_waits after e stop.keeps.undecided.tiny stop.keeps.undecided.buffered (stop.keeps.passes e passes) (stop.keeps.waiting e)
    by_detected false e three none = absurd (omega (arith, (stop.keeps.gathering e).0, stop.moves.taken, three))

-- a write failed: all of that text but a piece and what waits is written
all_but_waiting : (o : Options) (i : Indexes) (room piece : ℕ) (left : Option (List ℕ)) (faults calls : ℕ) (after : ReaderStanding) (taken taken' : Option (List ℕ))
    → StopsAtSink (fresh o i room left faults calls) after taken taken' piece → WritesAllBut (stream_text o i) (piece + 3 * (room + 10)) left after.left taken taken'
all_but_waiting o i room piece left faults calls after taken taken' stop =
    let cut : stop.text ≡ stop.front ++ drop (length stop.front) stop.text =
    sym (take-append-drop (length stop.front) stop.text) ∙ ap (λ l. l ++ drop (length stop.front) stop.text) stop.front_prefix in
    record {
      given = stop.goes_on.moves.moved;
      front = stop.front;
      behind = drop (length stop.front) stop.text ++ still after [];
      consumed = stop.goes_on.moves.consumed;
      written = stop.written;
      whole = given_text o i room left faults calls after stop.text stop.goes_on.moves ∙ ap (λ l. l ++ still after []) cut
          ∙ append_assoc stop.front (drop (length stop.front) stop.text) (still after []);
      few = omega (
        arith,
        length-append (drop (length stop.front) stop.text) (still after []),
        length-drop (length stop.front) stop.text,
        stop.behind,
        stop.small,
        stop.goes_on.moves.same_buffer,
      );
    }

-- by how the copy ended
pub streams : (o : Options) (i : Indexes) (room : ℕ) (left : Option (List ℕ)) (faults calls : ℕ) (after : ReaderStanding) (taken taken' : Option (List ℕ)) (piece : ℕ)
    (result : Result ℕ CopyFault) → Copies (fresh o i room left faults calls) after taken taken' piece result
    → Streams None (writing o i room piece) o.limit left after.left taken taken' (copy_status result)
streams o i room left faults calls after taken taken' piece (Ok n) all = record {
  headline = λ _. fresh_text o i room left left faults calls taken taken' all.text all.whole all.written;
  drained = λ _. all.drained;
  limit = λ _. fresh_whole o i room left faults calls after all.text all.goes_on.moves all.goes_on.within all.drained;
  prefix = λ h. absurd h;
  read_fault = λ e. cc;
  write_fault = λ e. cc;
  too_much = λ e. cc;
  given = λ _. fresh_lost o i room left faults calls after all.text all.goes_on.moves all.goes_on.within;
  table = λ encoding e. cc;
  no_table = tt;
  complete = λ _. always left (λ s. length s ≤ o.limit → Done ≢ ReadFault → Done ≢ WriteFault → (Done ≡ Done) ⊎ (Done ≡ Memory)) (λ s _ _ _. inl refl);
}
streams o i room left faults calls after taken taken' piece (Err fault.ReadFault) stop = record {
  headline = λ e. cc;
  drained = λ e. cc;
  limit = λ e. cc;
  prefix = λ _. fresh_prefix o i room left left faults calls taken taken' _ stop.prefix (λ s h are. (stop.text, h are, stop.written));
  read_fault = λ _. almost_all o i room piece left faults calls after taken taken' stop;
  write_fault = λ e. cc;
  too_much = λ e. cc;
  given = λ _. fresh_lost o i room left faults calls after stop.text stop.moves stop.within;
  table = λ encoding e. cc;
  no_table = tt;
  complete = λ _. always left (λ s. length s ≤ o.limit → ReadFault ≢ ReadFault → ReadFault ≢ WriteFault → (ReadFault ≡ Done) ⊎ (ReadFault ≡ Memory)) (λ s _ no _. absurd (no refl));
}
streams o i room left faults calls after taken taken' piece (Err fault.TooMuch) stop =
    let lost : Loses left after.left (o.limit + 1) = fresh_passed o i room left faults calls after (stop.text ++ stop.lost) stop.moves stop.passed stop.at_most in
    record {
      headline = λ e. cc;
      drained = λ e. cc;
      limit = λ e. cc;
      prefix = λ _. fresh_prefix o i room left left faults calls taken taken' _ stop.prefix (λ s h are. (stop.text, h are, stop.written));
      read_fault = λ e. cc;
      write_fault = λ e. cc;
      too_much = λ _. lost;
      given = λ no. absurd (no refl);
      table = λ encoding e. cc;
      no_table = tt;
      complete = λ _. too_long left after.left o.limit lost;
    }
streams o i room left faults calls after taken taken' piece (Err fault.WriteFault) stop = record {
  headline = λ e. cc;
  drained = λ e. cc;
  limit = λ e. cc;
  prefix = λ _. fresh_prefix o i room left left faults calls taken taken' _ stop.prefix (λ s h are. (stop.front, front_of _ _ _ (h are) stop.front_prefix, stop.written));
  read_fault = λ e. cc;
  write_fault = λ _. all_but_waiting o i room piece left faults calls after taken taken' stop;
  too_much = λ e. cc;
  given = λ _. fresh_lost o i room left faults calls after stop.text stop.goes_on.moves stop.goes_on.within;
  table = λ encoding e. cc;
  no_table = tt;
  complete = λ _. always left (λ s. length s ≤ o.limit → WriteFault ≢ ReadFault → WriteFault ≢ WriteFault → (WriteFault ≡ Done) ⊎ (WriteFault ≡ Memory)) (λ s _ _ no. absurd (no refl));
}

-- where nothing was read and written
pub streams_none : (missing : Option Encoding) (what : Writing) (most : ℕ) (left taken : Option (List ℕ)) → Streams missing what most left left taken taken Memory
streams_none missing what most left taken = record {
  headline = λ e. cc;
  drained = λ e. cc;
  limit = λ e. cc;
  prefix = λ h. absurd h;
  read_fault = λ e. cc;
  write_fault = λ e. cc;
  too_much = λ e. cc;
  given = λ _. ([], Consumes-nil left, omega arith);
  table = λ encoding e. cc;
  no_table = memory missing;
  complete = λ _. always left (λ s. length s ≤ most → Memory ≢ ReadFault → Memory ≢ WriteFault → (Memory ≡ Done) ⊎ (Memory ≡ Memory)) (λ s _ _ _. inr refl);
}
  where
    memory : (o : Option Encoding) → IfSome o (λ encoding. (Memory ≡ NoTable encoding) ⊎ (Memory ≡ Memory))
    memory None = tt
    memory (Some encoding) = inr refl

-- where an encoding has no index
pub streams_no_table : (encoding : Encoding) (missing : Option Encoding) (what : Writing) (most : ℕ) (left taken : Option (List ℕ)) → missing ≡ Some encoding
    → Streams missing what most left left taken taken (NoTable encoding)
streams_no_table encoding missing what most left taken some = record {
  headline = λ e. cc;
  drained = λ e. cc;
  limit = λ e. cc;
  prefix = λ h. absurd h;
  read_fault = λ e. cc;
  write_fault = λ e. cc;
  too_much = λ e. cc;
  given = λ _. ([], Consumes-nil left, omega arith);
  table = λ other e. some ∙ ap Some (no_table_same encoding other e);
  no_table = subst (λ (o : Option Encoding). IfSome o (λ other. (NoTable encoding ≡ NoTable other) ⊎ (NoTable encoding ≡ Memory))) (sym some) (inl refl);
  complete = λ none. let bad : Some encoding ≡ None = sym some ∙ none in cc;
}
  where
    no_table_same : (a b : Encoding) → NoTable a ≡ NoTable b → a ≡ b
    no_table_same a b e = cc

-- the counts of faults, by how the copy ended
pub copy_counts : (before after : ReaderStanding) (taken taken' : Option (List ℕ)) (piece writes writes' : ℕ) (result : Result ℕ CopyFault)
    → Copies before after taken taken' piece result → (result ≢ Err fault.WriteFault → writes' ≡ writes) → (result ≡ Err fault.WriteFault → Rose writes writes')
    → Counts (copy_status result) before.faults after.faults writes writes'
copy_counts before after taken taken' piece writes writes' (Ok n) all counted failed = record {
  read_fault = λ e. cc;
  source_count = λ _. all.goes_on.same_faults;
  write_fault = λ e. cc;
  sink_count = λ _. counted (λ e. cc);
}
copy_counts before after taken taken' piece writes writes' (Err fault.ReadFault) stop counted failed = record {
  read_fault = λ _. stop.rose;
  source_count = λ no. absurd (no refl);
  write_fault = λ e. cc;
  sink_count = λ _. counted (λ e. cc);
}
copy_counts before after taken taken' piece writes writes' (Err fault.TooMuch) stop counted failed = record {
  read_fault = λ e. cc;
  source_count = λ _. stop.same_faults;
  write_fault = λ e. cc;
  sink_count = λ _. counted (λ e. cc);
}
copy_counts before after taken taken' piece writes writes' (Err fault.WriteFault) stop counted failed = record {
  read_fault = λ e. cc;
  source_count = λ _. stop.goes_on.same_faults;
  write_fault = λ _. failed refl;
  sink_count = λ no. absurd (no refl);
}

-- what a copy of a fresh reader comes to
pub streams_end : (o : Options) (i : Indexes) (room piece : ℕ) (left left' : Option (List ℕ)) (faults faults' calls : ℕ) (before : ReaderStanding)
    (taken taken' : Option (List ℕ)) (status : Status) → before ≡ fresh o i room left faults calls → EndsCopy before left' faults' taken taken' piece status
    → Streams None (writing o i room piece) o.limit left left' taken taken' status
streams_end o i room piece left left' faults faults' calls before taken taken' status is ends =
    let at_fresh = subst (λ (b : ReaderStanding). Copies b ends.after taken taken' piece ends.answer) is ends.copies in
    let done = streams o i room left faults calls ends.after taken taken' piece ends.answer at_fresh in
    subst (λ (s : Status). Streams None (writing o i room piece) o.limit left left' taken taken' s) (sym ends.same_status)
    (subst (λ (l : Option (List ℕ)). Streams None (writing o i room piece) o.limit left l taken taken' (copy_status ends.answer)) (sym ends.same_left) done)

-- by the lengths that were asked for
pub streams_same : (missing : Option Encoding) (o : Options) (i : Indexes) (room room' piece piece' most : ℕ) (left left' taken taken' : Option (List ℕ)) (status : Status)
    → room ≡ room' → piece ≡ piece' → Streams missing (writing o i room piece) most left left' taken taken' status
    → Streams missing (writing o i room' piece') most left left' taken taken' status
streams_same missing o i room room' piece piece' most left left' taken taken' status rooms pieces streams =
    subst (λ (n : ℕ). Streams missing (writing o i room' n) most left left' taken taken' status) pieces
    (subst (λ (n : ℕ). Streams missing (writing o i n piece) most left left' taken taken' status) rooms streams)

-- a reader isn't built where an encoding has no index, and buffers are long enough
pub streams_refused : (o : Options) (i : Indexes) (room piece : ℕ) (left taken : Option (List ℕ)) (error : BuildError) → 4 ≤ room → build_error o i room ≡ Some error
    → Streams (unknown_encoding o i) (writing o i room piece) o.limit left left taken taken (build_status error)
streams_refused o i room piece left taken error enough refused = by_missing (unknown_encoding o i) refl refused
  where
    small : nat_lt room 4 ≡ false
    small = grind (arith, nat_tests)

    by_missing : (missing : Option Encoding) → unknown_encoding o i ≡ missing
        → option_map_or (λ encoding. Some (build.NoTable encoding)) missing (if nat_lt room 4 then Some (build.TooSmall room) else None) ≡ Some error
        → Streams (unknown_encoding o i) (writing o i room piece) o.limit left left taken taken (build_status error)
    by_missing None is e = let bad : None ≡ Some error = rw small at e in cc
    by_missing (Some encoding) is e =
        let same : build.NoTable encoding ≡ error = cc in
        subst (λ (x : BuildError). Streams (unknown_encoding o i) (writing o i room piece) o.limit left left taken taken (build_status x)) same
        (streams_no_table encoding (unknown_encoding o i) (writing o i room piece) o.limit left taken is)

-- and is where there is none
pub not_missing : (o : Options) (i : Indexes) (room : ℕ) → build_error o i room ≡ None → None ≡ unknown_encoding o i
not_missing o i room none = by_missing (unknown_encoding o i) refl none
  where
    by_missing : (missing : Option Encoding) → unknown_encoding o i ≡ missing
        → option_map_or (λ encoding. Some (build.NoTable encoding)) missing (if nat_lt room 4 then Some (build.TooSmall room) else None) ≡ None → None ≡ unknown_encoding o i
    by_missing None is e = sym is
    by_missing (Some encoding) is e = cc

-- a copy ends behind the words and the index files, and reads
pub copy_behind : (answer : Result ℕ CopyFault) → IsBehindFiles (copy_status answer)
copy_behind (Ok n) = tt
copy_behind (Err fault.ReadFault) = tt
copy_behind (Err fault.TooMuch) = tt
copy_behind (Err fault.WriteFault) = tt

pub copy_reads : (answer : Result ℕ CopyFault) → IsBeforeSource (copy_status answer) → ⊥
copy_reads (Ok n) h = h
copy_reads (Err fault.ReadFault) h = h
copy_reads (Err fault.TooMuch) h = h
copy_reads (Err fault.WriteFault) h = h

pub build_behind : (error : BuildError) → IsBehindFiles (build_status error)
build_behind (build.NoTable encoding) = tt
build_behind (build.TooSmall room) = tt
build_behind build.Memory = tt
