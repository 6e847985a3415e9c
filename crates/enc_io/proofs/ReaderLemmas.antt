-- What the calls of a reader of a stream's text do, over plain values.
use Rattle.std.proofs.Common.{◌≡◌, ℕ, ◌+◌, ◌-◌, ◌*◌, ◌<◌, ◌≤◌, Bool, true, false, true≢false, nat_eq, if◌then◌else◌, List, [], ◌∷◌, ◌++◌, length, take, drop, None, Some, IsNone, Result, Ok, Err, subst, sym, ap, refl, ◌∙◌, arith, append_assoc, append-nil, length-append, length-drop, length-take-le}
use Rattle.std.specs.declared.option.Option.{Option}
use Rattle.std.specs.Option.{ForSome, option_map}
use Rattle.std.specs.Prelude.{is_some, is_none}
use Rattle.std.specs.Io.KnownBytes.{Consumes}
use Rattle.std.proofs.KnownBytes.{Consumes-trans, Consumes-nil}
use Rattle.std.proofs.lemmas.Bool.{eqb-true, eqb-false}
use Rattle.std.proofs.lemmas.List.{take_all, nil_from_length}
use Rattle.std.proofs.lemmas.List.Elements.{All-nil, All-append}
use Rattle.enc_drivers.specs.Units.{AreBytes}
use Rattle.enc_front.specs.DecoderCalls.{DecoderMayHold}
use Rattle.enc_front.specs.Indexes.{Indexes}
use Rattle.enc_front.specs.Decoder.{DecoderStanding}
use Rattle.enc_io.specs.declared.reader.ReadError.{ReadError}
use Rattle.enc_io.specs.declared.reader.ReadError.TheVariants.{ReadFault, TooMuch}
use Rattle.enc_io.specs.Faults.{Rose}
use Rattle.enc_io.specs.Options.{Options}
use Rattle.enc_io.specs.Peeker.{PeekerStanding, Gathers, GivesNext, HasGivenAll}
use Rattle.enc_io.specs.Reader.{ReaderStanding, fresh, still, still_behind, number, decoder_number, has_seen_end, HasTooMuch}
use Rattle.enc_io.specs.ReaderCalls.{Moves, GoesOn, KeepsUndecided, KeepsLittle, Faults, Passes, Does, HasGivenText, turns}
use Rattle.enc_io.specs.Text.{chosen, stream_text}
use Rattle.enc_io.proofs.PeekerLemmas.{take_twice, gathered_stays}

-- bytes: numbers below 256
pub join_bytes : (a b : List ℕ) → AreBytes a → AreBytes b → AreBytes (a ++ b)
join_bytes a b are are' = All-append (λ x. x < 256) a b are are'

-- what a fresh reader has still to give is the text of the stream
pub still_fresh : (options : Options) (indexes : Indexes) (buffer : ℕ) (left : Option (List ℕ)) (faults calls : ℕ) (rest : List ℕ)
    → still (fresh options indexes buffer left faults calls) rest ≡ stream_text options indexes rest
unfolding still
still_fresh options indexes buffer left faults calls rest = refl

-- what is still to give at the front of a stream, and behind it
pub still_front : (at : ReaderStanding) (rest : List ℕ) → at.detected ≡ false → at.tiny ≡ [] → still at rest ≡ stream_text at.options at.indexes (at.peeker.gathered ++ rest)
unfolding still
still_front at rest e none =
    ap (λ l. l ++ (if at.detected then still_behind at.decoder (at.buffered ++ (at.peeker.waiting ++ rest)) else stream_text at.options at.indexes (at.peeker.gathered ++ rest))) none
    ∙ ap (λ b. if b then still_behind at.decoder (at.buffered ++ (at.peeker.waiting ++ rest)) else stream_text at.options at.indexes (at.peeker.gathered ++ rest)) e

pub still_on : (at : ReaderStanding) (rest : List ℕ) → at.detected ≡ true → still at rest ≡ at.tiny ++ still_behind at.decoder (at.buffered ++ (at.peeker.waiting ++ rest))
unfolding still
still_on at rest e =
    ap (λ b. at.tiny ++ (if b then still_behind at.decoder (at.buffered ++ (at.peeker.waiting ++ rest)) else stream_text at.options at.indexes (at.peeker.gathered ++ rest))) e

pub number_front : (at : ReaderStanding) → at.detected ≡ false
    → number at ≡ length at.tiny + 3 * (decoder_number at.decoder + length at.buffered + length at.peeker.gathered + (at.options.limit + 1 - at.taken))
unfolding number
number_front at e =
    ap (λ b. length at.tiny + 3 * (decoder_number at.decoder + length at.buffered + length (if b then at.peeker.waiting else at.peeker.gathered) + (at.options.limit + 1 - at.taken))) e

pub number_on : (at : ReaderStanding) → at.detected ≡ true
    → number at ≡ length at.tiny + 3 * (decoder_number at.decoder + length at.buffered + length at.peeker.waiting + (at.options.limit + 1 - at.taken))
unfolding number
number_on at e =
    ap (λ b. length at.tiny + 3 * (decoder_number at.decoder + length at.buffered + length (if b then at.peeker.waiting else at.peeker.gathered) + (at.options.limit + 1 - at.taken))) e

-- two moves in a row are one
pub moves_trans : (a b c : ReaderStanding) (given more : List ℕ) → Moves a b given → Moves b c more → Moves a c (given ++ more)
moves_trans a b c given more first next = record {
  moved = first.moved ++ next.moved;
  bytes = join_bytes first.moved next.moved first.bytes next.bytes;
  consumed = Consumes-trans a.left b.left c.left first.moved next.moved first.consumed next.consumed;
  taken = omega (arith, first.taken, next.taken, length-append first.moved next.moved);
  equation = λ rest are none.
      ap (still a) (append_assoc first.moved next.moved rest)
      ∙ first.equation (next.moved ++ rest) (join_bytes next.moved rest next.bytes are)
      (λ e. ap (λ l. l ++ rest) (next.behind_end e).0 ∙ none (next.behind_end e).1)
      ∙ ap (λ l. given ++ l) (next.equation rest are none)
      ∙ sym (append_assoc given more (still c rest));
  gathered = next.gathered ∙ ap (λ l. take 3 (l ++ next.moved)) first.gathered ∙ take_twice (a.peeker.gathered ++ first.moved) next.moved
      ∙ ap (take 3) (append_assoc a.peeker.gathered first.moved next.moved);
  falls = omega (arith, first.falls, next.falls, length-append given more);
  behind_end = λ e.
      let f = first.behind_end e in let n = next.behind_end f.1 in
      (ap (λ l. l ++ next.moved) f.0 ∙ n.0, n.1, n.2 ∙ f.2);
  silent = λ none. next.silent (first.silent none);
  same_options = next.same_options ∙ first.same_options;
  same_indexes = next.same_indexes ∙ first.same_indexes;
  same_buffer = next.same_buffer ∙ first.same_buffer;
}

-- how often the source was called in two moves
calls_more : (a b c : ReaderStanding) (more : List ℕ) → Moves b c more → b.calls + a.taken ≤ a.calls + b.taken + 1
    → (has_seen_end b ≡ false → b.calls + a.taken ≤ a.calls + b.taken) → c.calls + b.taken ≤ b.calls + c.taken + 1
    → (b.peeker.ended ≡ true → c.taken ≡ b.taken) → c.calls + a.taken ≤ a.calls + c.taken + 1
calls_more a b c more next calls calls_on calls' same = by_end b.peeker.ended calls_on (λ e. (next.behind_end e).2) same
  where
    by_end : (ended : Bool) → (ended ≡ false → b.calls + a.taken ≤ a.calls + b.taken) → (ended ≡ true → c.calls ≡ b.calls) → (ended ≡ true → c.taken ≡ b.taken)
        → c.calls + a.taken ≤ a.calls + c.taken + 1
    by_end true on left_alone same = omega (arith, calls, left_alone refl, same refl)
    by_end false on left_alone same = omega (arith, calls', on refl)

no_more_taken : (b c : ReaderStanding) (more : List ℕ) (next : Moves b c more) → b.peeker.ended ≡ true → c.taken ≡ b.taken
no_more_taken b c more next e = omega (arith, next.taken, ap length (next.behind_end e).0)

calls_on_more : (a b c : ReaderStanding) (more : List ℕ) → Moves b c more
    → (has_seen_end b ≡ false → b.calls + a.taken ≤ a.calls + b.taken) → (has_seen_end c ≡ false → c.calls + b.taken ≤ b.calls + c.taken)
    → has_seen_end c ≡ false → c.calls + a.taken ≤ a.calls + c.taken
calls_on_more a b c more next calls_on calls_on' going = by_end b.peeker.ended calls_on (λ e. (next.behind_end e).1)
  where
    by_end : (ended : Bool) → (ended ≡ false → b.calls + a.taken ≤ a.calls + b.taken) → (ended ≡ true → has_seen_end c ≡ true) → c.calls + a.taken ≤ a.calls + c.taken
    by_end true on ends = absurd (true≢false (sym (ends refl) ∙ going))
    by_end false on ends = omega (arith, on refl, calls_on' going)

pub goes_trans : (a b c : ReaderStanding) (given more : List ℕ) → GoesOn a b given → GoesOn b c more → GoesOn a c (given ++ more)
goes_trans a b c given more first next = record {
  moves = moves_trans a b c given more first.moves next.moves;
  same_faults = next.same_faults ∙ first.same_faults;
  calls = calls_more a b c more next.moves first.calls first.calls_on next.calls (no_more_taken b c more next.moves);
  calls_on = calls_on_more a b c more next.moves first.calls_on next.calls_on;
  within = next.within;
}

pub goes_faults : (a b c : ReaderStanding) → GoesOn a b [] → Faults b c → Faults a c
goes_faults a b c first next = record {
  moves = moves_trans a b c [] [] first.moves next.moves;
  rose = subst (λ n. Rose n c.faults) first.same_faults next.rose;
  calls = calls_more a b c [] next.moves first.calls first.calls_on next.calls (no_more_taken b c [] next.moves);
  within = next.within;
  going = next.going;
  keeps = next.keeps;
}

pub goes_passes : (a b c : ReaderStanding) → GoesOn a b [] → Passes b c → Passes a c
goes_passes a b c first next = record {
  lost = next.lost;
  moves = moves_trans a b c [] next.lost first.moves next.moves;
  same_faults = next.same_faults ∙ first.same_faults;
  calls = calls_more a b c next.lost next.moves first.calls first.calls_on next.calls (no_more_taken b c next.lost next.moves);
  passed = next.passed;
  at_most = next.at_most;
}

-- text was given, and nothing was taken from the source
pub moves_still : (a b : ReaderStanding) (given : List ℕ)
    → b ≡ record a { detected = b.detected; decoder = b.decoder; tiny = b.tiny; buffered = b.buffered }
    → length a.peeker.gathered ≤ 3
    → ((rest : List ℕ) → AreBytes rest → (has_seen_end a ≡ true → rest ≡ []) → still a rest ≡ given ++ still b rest)
    → number b + length given ≤ number a → Moves a b given
moves_still a b given same few text falls =
    let same_taken : b.taken ≡ a.taken = ap (λ s. s.taken) same in
    let same_calls : b.calls ≡ a.calls = ap (λ s. s.calls) same in
    let same_end : has_seen_end b ≡ has_seen_end a = ap (λ s. s.peeker.ended) same in
    record {
      moved = [];
      bytes = All-nil (λ x. x < 256);
      consumed = subst (λ l. Consumes a.left l []) (sym (ap (λ s. s.left) same)) (Consumes-nil a.left);
      taken = omega (arith, same_taken);
      equation = λ rest are none. text rest are (λ e. none (same_end ∙ e));
      gathered = ap (λ s. s.peeker.gathered) same ∙ sym (ap (take 3) (append-nil a.peeker.gathered) ∙ take_all 3 a.peeker.gathered few);
      falls = falls;
      behind_end = λ e. (refl, same_end ∙ e, same_calls);
      silent = λ none. subst IsNone (sym (ap (λ s. s.left) same)) none;
      same_options = ap (λ s. s.options) same;
      same_indexes = ap (λ s. s.indexes) same;
      same_buffer = ap (λ s. s.buffer) same;
    }

pub goes_still : (a b : ReaderStanding) (given : List ℕ)
    → b ≡ record a { detected = b.detected; decoder = b.decoder; tiny = b.tiny; buffered = b.buffered }
    → length a.peeker.gathered ≤ 3 → a.taken ≤ a.options.limit
    → ((rest : List ℕ) → AreBytes rest → (has_seen_end a ≡ true → rest ≡ []) → still a rest ≡ given ++ still b rest)
    → number b + length given ≤ number a → GoesOn a b given
goes_still a b given same few within text falls =
    let same_taken : b.taken ≡ a.taken = ap (λ s. s.taken) same in
    let same_calls : b.calls ≡ a.calls = ap (λ s. s.calls) same in
    let same_limit : b.options.limit ≡ a.options.limit = ap (λ s. s.options.limit) same in
    record {
      moves = moves_still a b given same few text falls;
      same_faults = ap (λ s. s.faults) same;
      calls = omega (arith, same_calls, same_taken);
      calls_on = λ e. omega (arith, same_calls, same_taken);
      within = omega (arith, same_taken, same_limit);
    }

-- nothing was done
pub moves_nowhere : (a : ReaderStanding) → length a.peeker.gathered ≤ 3 → Moves a a []
moves_nowhere a few = moves_still a a [] refl few (λ rest are none. refl) (omega arith)

pub goes_nowhere : (a : ReaderStanding) → length a.peeker.gathered ≤ 3 → a.taken ≤ a.options.limit → GoesOn a a []
goes_nowhere a few within = goes_still a a [] refl few within (λ rest are none. refl) (omega arith)

pub passes_nowhere : (a : ReaderStanding) → length a.peeker.gathered ≤ 3 → HasTooMuch a → a.taken ≤ a.options.limit + 1 → Passes a a
passes_nowhere a few passed at_most = record {
  lost = [];
  moves = moves_nowhere a few;
  same_faults = refl;
  calls = omega arith;
  passed = passed;
  at_most = at_most;
}

-- bytes for the mark were gathered
pub moves_gather : (a b : ReaderStanding) → (gathers : Gathers a.left b.left a.peeker b.peeker)
    → a.detected ≡ false → a.tiny ≡ []
    → b ≡ record a { peeker = b.peeker; taken = b.taken; left = b.left; faults = b.faults; calls = b.calls }
    → a.taken ≡ length a.peeker.gathered → b.taken ≡ length b.peeker.gathered → length b.peeker.gathered ≤ 3 → b.taken ≤ b.options.limit + 1
    → (has_seen_end a ≡ false) → (IsNone a.left → IsNone b.left) → Moves a b []
moves_gather a b gathers undetected none_waits same taken taken' few at_most going silent =
    let grown = ap length gathers.grown ∙ length-append a.peeker.gathered gathers.moved in
    let undetected' : b.detected ≡ false = ap (λ s. s.detected) same ∙ undetected in
    let none_waits' : b.tiny ≡ [] = ap (λ s. s.tiny) same ∙ none_waits in
    let same_limit : b.options.limit ≡ a.options.limit = ap (λ s. s.options.limit) same in
    record {
      moved = gathers.moved;
      bytes = gathers.bytes;
      consumed = gathers.consumed;
      taken = omega (arith, taken, taken', grown);
      equation = λ rest are end.
          still_front a (gathers.moved ++ rest) undetected none_waits
          ∙ ap (stream_text a.options a.indexes) (sym (append_assoc a.peeker.gathered gathers.moved rest) ∙ ap (λ l. l ++ rest) (sym gathers.grown))
          ∙ ap (λ s. stream_text s.options s.indexes (b.peeker.gathered ++ rest)) (sym same)
          ∙ sym (still_front b rest undetected' none_waits');
      gathered = sym (take_all 3 b.peeker.gathered few) ∙ ap (take 3) gathers.grown;
      falls = omega (
        arith,
        number_front a undetected,
        number_front b undetected',
        grown,
        taken,
        taken',
        same_limit,
        ap (λ s. length s.tiny) same,
        ap (λ s. length s.buffered) same,
        ap (λ s. decoder_number s.decoder) same,
      );
      behind_end = λ e. absurd (true≢false (sym e ∙ going));
      silent = silent;
      same_options = ap (λ s. s.options) same;
      same_indexes = ap (λ s. s.indexes) same;
      same_buffer = ap (λ s. s.buffer) same;
    }

-- behind the front, bytes were taken into the buffer, or given as they are where there is no decoder
pub moves_fill : (a b : ReaderStanding) (given : List ℕ) (n : ℕ) → GivesNext a.left b.left a.peeker b.peeker (given ++ b.buffered) n
    → a.detected ≡ true → a.tiny ≡ [] → a.buffered ≡ []
    → b ≡ record a { peeker = b.peeker; buffered = b.buffered; taken = b.taken; left = b.left; faults = b.faults; calls = b.calls }
    → b.taken ≡ a.taken + n → b.taken ≤ b.options.limit + 1 → ((rest : List ℕ) → still_behind a.decoder (given ++ rest) ≡ given ++ still_behind a.decoder rest)
    → length a.peeker.gathered ≤ 3 → (has_seen_end a ≡ false → length a.peeker.gathered ≡ 3)
    → (has_seen_end a ≡ true → (has_seen_end b ≡ true) × (b.calls ≡ a.calls)) → (IsNone a.left → IsNone b.left) → Moves a b given
moves_fill a b given n next detected none_waits empty same taken at_most passes few whole behind silent =
    let detected' : b.detected ≡ true = ap (λ s. s.detected) same ∙ detected in
    let none_waits' : b.tiny ≡ [] = ap (λ s. s.tiny) same ∙ none_waits in
    let same_limit : b.options.limit ≡ a.options.limit = ap (λ s. s.options.limit) same in
    let seam = sym (length-append a.peeker.waiting next.moved) ∙ ap length next.seam ∙ length-append (given ++ b.buffered) b.peeker.waiting in
    record {
      moved = next.moved;
      bytes = next.bytes;
      consumed = next.consumed;
      taken = omega (arith, taken, next.count);
      equation = λ rest are end.
          still_on a (next.moved ++ rest) detected
          ∙ ap (λ l. l ++ still_behind a.decoder (a.buffered ++ (a.peeker.waiting ++ (next.moved ++ rest)))) none_waits
          ∙ ap (λ l. still_behind a.decoder (l ++ (a.peeker.waiting ++ (next.moved ++ rest)))) empty
          ∙ ap (still_behind a.decoder) (sym (append_assoc a.peeker.waiting next.moved rest) ∙ ap (λ l. l ++ rest) next.seam
          ∙ append_assoc (given ++ b.buffered) b.peeker.waiting rest ∙ append_assoc given b.buffered (b.peeker.waiting ++ rest))
          ∙ passes (b.buffered ++ (b.peeker.waiting ++ rest))
          ∙ ap (λ l. given ++ l) (ap (λ s. still_behind s.decoder (b.buffered ++ (b.peeker.waiting ++ rest))) (sym same)
          ∙ ap (λ l. l ++ still_behind b.decoder (b.buffered ++ (b.peeker.waiting ++ rest))) (sym none_waits') ∙ sym (still_on b rest detected'));
      gathered = next.same_gathered ∙ sym (gathered_stays a.peeker.ended a.peeker.gathered next.moved few whole next.behind_end);
      falls = omega (
        arith,
        number_on a detected,
        number_on b detected',
        seam,
        length-append given b.buffered,
        next.count,
        taken,
        same_limit,
        ap length empty,
        ap (λ s. length s.tiny) same,
        ap (λ s. decoder_number s.decoder) same,
      );
      behind_end = λ e. (next.behind_end e, (behind e).0, (behind e).1);
      silent = silent;
      same_options = ap (λ s. s.options) same;
      same_indexes = ap (λ s. s.indexes) same;
      same_buffer = ap (λ s. s.buffer) same;
    }

-- text that waited was given
pub goes_waiting : (a b : ReaderStanding) (given : List ℕ) → a.detected ≡ true → b ≡ record a { tiny = b.tiny } → a.tiny ≡ given ++ b.tiny
    → length a.peeker.gathered ≤ 3 → a.taken ≤ a.options.limit → GoesOn a b given
goes_waiting a b given detected same split few within =
    let detected' : b.detected ≡ true = ap (λ s. s.detected) same ∙ detected in
    goes_still a b given
    (same ∙ ap (λ s. record a { detected = s.detected; decoder = s.decoder; tiny = b.tiny; buffered = s.buffered }) (sym same)) few within
    (λ rest are none.
    still_on a rest detected
    ∙ ap (λ l. l ++ still_behind a.decoder (a.buffered ++ (a.peeker.waiting ++ rest))) split
    ∙ append_assoc given b.tiny (still_behind a.decoder (a.buffered ++ (a.peeker.waiting ++ rest)))
    ∙ ap (λ s. given ++ (b.tiny ++ still_behind s.decoder (s.buffered ++ (s.peeker.waiting ++ rest)))) (sym same)
    ∙ ap (λ l. given ++ l) (sym (still_on b rest detected')))
    (omega (
      arith,
      number_on a detected,
      number_on b detected',
      ap length split,
      length-append given b.tiny,
      ap (λ s. decoder_number s.decoder) same,
      ap (λ s. length s.buffered) same,
      ap (λ s. length s.peeker.waiting) same,
      ap (λ s. s.options.limit) same,
      ap (λ s. s.taken) same,
    ))

-- some were moved, and the source gave no more than the limit
pub goes_moved : (a b : ReaderStanding) (given : List ℕ) (n : ℕ) → Moves a b given → b.faults ≡ a.faults → b.taken ≡ a.taken + n → b.calls ≤ a.calls + n + 1
    → (has_seen_end b ≡ false → b.calls ≤ a.calls + n) → b.taken ≤ b.options.limit → GoesOn a b given
goes_moved a b given n moves faults taken calls calls_on within = record {
  moves = moves;
  same_faults = faults;
  calls = omega (arith, taken, calls);
  calls_on = λ e. omega (arith, taken, calls_on e);
  within = within;
}

pub passes_moved : (a b : ReaderStanding) (given : List ℕ) (n : ℕ) → Moves a b given → b.faults ≡ a.faults → b.taken ≡ a.taken + n → b.calls ≤ a.calls + n + 1
    → HasTooMuch b → b.taken ≤ b.options.limit + 1 → Passes a b
passes_moved a b given n moves faults taken calls passed at_most = record {
  lost = given;
  moves = moves;
  same_faults = faults;
  calls = omega (arith, taken, calls);
  passed = passed;
  at_most = at_most;
}

pub faults_moved : (a b : ReaderStanding) (n : ℕ) → Moves a b [] → Rose a.faults b.faults → b.taken ≡ a.taken + n → b.calls ≤ a.calls + n + 1
    → b.taken ≤ b.options.limit → has_seen_end b ≡ false → KeepsLittle b → Faults a b
faults_moved a b n moves rose taken calls within going keeps = record {
  moves = moves;
  rose = rose;
  calls = omega (arith, taken, calls);
  within = within;
  going = going;
  keeps = keeps;
}

-- bytes were taken into the empty buffer
pub moves_buffer : (a b : ReaderStanding) (n : ℕ) → GivesNext a.left b.left a.peeker b.peeker b.buffered n
    → a.detected ≡ true → a.tiny ≡ [] → a.buffered ≡ []
    → record b { buffer = a.buffer } ≡ record a { peeker = b.peeker; buffered = b.buffered; taken = b.taken; left = b.left; faults = b.faults; calls = b.calls }
    → b.buffer ≡ a.buffer
    → b.taken ≡ a.taken + n → b.taken ≤ b.options.limit + 1 → length a.peeker.gathered ≤ 3 → (has_seen_end a ≡ false → length a.peeker.gathered ≡ 3)
    → (has_seen_end a ≡ true → (has_seen_end b ≡ true) × (b.calls ≡ a.calls)) → (IsNone a.left → IsNone b.left) → Moves a b []
moves_buffer a b n next detected none_waits empty same same_buffer taken at_most few whole behind silent =
    moves_fill a b [] n next detected none_waits empty (ap (λ k. record b { buffer = k }) same_buffer ∙ same) taken at_most (λ rest. refl) few whole behind silent

-- bytes of a stream without an encoding were given as they are
passes_none : (decoder : Option DecoderStanding) (given rest : List ℕ) → decoder ≡ None → still_behind decoder (given ++ rest) ≡ given ++ still_behind decoder rest
unfolding still_behind
passes_none decoder given rest none = ap (λ d. still_behind d (given ++ rest)) none ∙ ap (λ d. given ++ still_behind d rest) (sym none)

pub moves_pass : (a b : ReaderStanding) (given : List ℕ) (n : ℕ) → GivesNext a.left b.left a.peeker b.peeker given n
    → a.detected ≡ true → a.tiny ≡ [] → a.buffered ≡ [] → a.decoder ≡ None
    → b ≡ record a { peeker = b.peeker; taken = b.taken; left = b.left; faults = b.faults; calls = b.calls }
    → b.taken ≡ a.taken + n → b.taken ≤ b.options.limit + 1 → length a.peeker.gathered ≤ 3 → (has_seen_end a ≡ false → length a.peeker.gathered ≡ 3)
    → (has_seen_end a ≡ true → (has_seen_end b ≡ true) × (b.calls ≡ a.calls)) → (IsNone a.left → IsNone b.left) → Moves a b given
moves_pass a b given n next detected none_waits empty none same taken at_most few whole behind silent =
    let empty' : b.buffered ≡ [] = ap (λ s. s.buffered) same ∙ empty in
    moves_fill a b given n (subst (λ l. GivesNext a.left b.left a.peeker b.peeker l n) (sym (append-nil given) ∙ ap (λ l. given ++ l) (sym empty')) next) detected none_waits empty
    (same ∙ ap (λ l. record a { peeker = b.peeker; buffered = l; taken = b.taken; left = b.left; faults = b.faults; calls = b.calls }) (empty ∙ sym empty'))
    taken at_most (λ rest. passes_none a.decoder given rest none) few whole behind silent

-- nothing is left of a stream without an encoding
pub given_bytes : (at : ReaderStanding) → at.detected ≡ true → at.tiny ≡ [] → at.buffered ≡ [] → at.decoder ≡ None → at.peeker.waiting ≡ [] → at.peeker.ended ≡ true → HasGivenText at
unfolding still_behind
given_bytes at detected none_waits empty none waiting ended = record {
  ended = ended;
  nothing = still_on at [] detected
      ∙ ap (λ l. l ++ still_behind at.decoder (at.buffered ++ (at.peeker.waiting ++ []))) none_waits
      ∙ ap (λ d. still_behind d (at.buffered ++ (at.peeker.waiting ++ []))) none
      ∙ ap (λ l. l ++ (at.peeker.waiting ++ [])) empty
      ∙ ap (λ l. l ++ []) waiting;
}

-- a call went on, and then did what its answer says
pub does_trans : {A : Type 0} (a b c : ReaderStanding) (given : List ℕ) (result : Result A ReadError) → GoesOn a b [] → Does b c given result → Does a c given result
does_trans a b c given (Ok value) first next = goes_trans a b c [] given first next
does_trans a b c given (Err ReadFault) first next = goes_faults a b c first next
does_trans a b c given (Err TooMuch) first next = goes_passes a b c first next

-- no decoder, in the code and in what it shows
pub none_shown : {A B : Type 0} (f : A → B) (found : Option A) → is_some found ≡ false → option_map f found ≡ None
none_shown f None e = refl
none_shown f (Some x) e = absurd (true≢false e)

pub none_there : {A B : Type 0} (f : A → B) (found : Option A) → option_map f found ≡ None → is_some found ≡ false
none_there f None e = refl
none_there f (Some x) e = absurd (cc)

pub some_there : {A B : Type 0} (f : A → B) (found : Option A) → is_some (option_map f found) ≡ true → is_some found ≡ true
some_there f None e = e
some_there f (Some x) e = refl

-- what holds of no decoder
pub for_none : {A : Type 0} (P : A → Type 0) (found : Option A) → found ≡ None → ForSome found P
for_none P found none x is = let clash : None ≡ Some x = sym none ∙ is in absurd (cc)

-- nothing is kept at a fault but what was gathered
pub keeps_gathered : (at : ReaderStanding) → at.detected ≡ false → at.tiny ≡ [] → at.buffered ≡ [] → at.decoder ≡ None → at.taken < 3
    → at.taken ≡ length at.peeker.gathered → KeepsLittle at
keeps_gathered at undetected none_waits empty none few taken = record {
  undecided = record {
    tiny = none_waits;
    buffered = empty;
    held = for_none (λ decoder. (decoder.owes ≡ false) × DecoderMayHold false decoder.place) at.decoder none;
  };
  gathering = λ e. (few, taken);
  waiting = λ e. absurd (true≢false (sym e ∙ undetected));
  passes = λ e. absurd (true≢false (sym e ∙ undetected));
}

-- nothing is kept where no encoding is chosen
pub keeps_nothing : (at : ReaderStanding) → at.detected ≡ true → at.tiny ≡ [] → at.buffered ≡ [] → at.decoder ≡ None → at.peeker.waiting ≡ [] → KeepsLittle at
keeps_nothing at detected none_waits empty none waiting = record {
  undecided = record {
    tiny = none_waits;
    buffered = empty;
    held = for_none (λ decoder. (decoder.owes ≡ false) × DecoderMayHold false decoder.place) at.decoder none;
  };
  gathering = λ e. absurd (true≢false (sym detected ∙ e));
  waiting = λ e. waiting;
  passes = λ e none'. none;
}

-- what is held is kept where an encoding is chosen
pub keeps_held : (at : ReaderStanding) → at.detected ≡ true → KeepsUndecided at → at.peeker.waiting ≡ [] → (chosen at.options at.peeker.gathered ≡ None → at.decoder ≡ None) → KeepsLittle at
keeps_held at detected undecided waiting passes = record {
  undecided = undecided;
  gathering = λ e. absurd (true≢false (sym detected ∙ e));
  waiting = λ e. waiting;
  passes = λ e. passes;
}

-- bytes for the mark were gathered, by each answer
pub goes_gather : (a b : ReaderStanding) → Moves a b [] → b.faults ≡ a.faults → a.taken ≡ length a.peeker.gathered → b.taken ≡ length b.peeker.gathered
    → b.calls + length a.peeker.gathered ≤ a.calls + length b.peeker.gathered + 1
    → (has_seen_end b ≡ false → b.calls + length a.peeker.gathered ≤ a.calls + length b.peeker.gathered) → b.taken ≤ b.options.limit → GoesOn a b []
goes_gather a b moves faults taken taken' calls calls_on within = record {
  moves = moves;
  same_faults = faults;
  calls = omega (arith, taken, taken', calls);
  calls_on = λ e. omega (arith, taken, taken', calls_on e);
  within = within;
}

pub passes_gather : (a b : ReaderStanding) → Moves a b [] → b.faults ≡ a.faults → a.taken ≡ length a.peeker.gathered → b.taken ≡ length b.peeker.gathered
    → b.calls + length a.peeker.gathered ≤ a.calls + length b.peeker.gathered + 1 → HasTooMuch b → b.taken ≤ b.options.limit + 1 → Passes a b
passes_gather a b moves faults taken taken' calls passed at_most = record {
  lost = [];
  moves = moves;
  same_faults = faults;
  calls = omega (arith, taken, taken', calls);
  passed = passed;
  at_most = at_most;
}

pub faults_gather : (a b : ReaderStanding) → Moves a b [] → Rose a.faults b.faults → a.taken ≡ length a.peeker.gathered → b.taken ≡ length b.peeker.gathered
    → b.calls + length a.peeker.gathered ≤ a.calls + length b.peeker.gathered + 1 → b.taken ≤ b.options.limit → has_seen_end b ≡ false → KeepsLittle b → Faults a b
faults_gather a b moves rose taken taken' calls within going keeps = record {
  moves = moves;
  rose = rose;
  calls = omega (arith, taken, taken', calls);
  within = within;
  going = going;
  keeps = keeps;
}

-- how many bytes are buffered
pub buffered_length : (pos len : ℕ) (items : List ℕ) → len ≤ length items → length (drop pos (take len items)) ≡ len - pos
buffered_length pos len items within = length-drop pos (take len items) ∙ ap (λ n. n - pos) (length-take-le len items within)

-- a call that gave no byte
pub goes_none : (a b : ReaderStanding) (n : ℕ) (buf : List ℕ) → n ≤ 0 → GoesOn a b (take n buf) → GoesOn a b []
goes_none a b n buf none goes = let zero : n ≡ 0 = omega arith in subst (λ k. GoesOn a b (take k buf)) zero goes

-- a refill leaves fewer turns, unless all was given
turns_by : (ended ended' : Bool) (allow allow' w w' b n : ℕ) → allow ≡ allow' + n → w + n ≡ b + w' → (ended ≡ true → (ended' ≡ true) × (n ≡ 0))
    → (b ≡ 0 → (ended' ≡ true) × (w' ≡ 0))
    → (2 * (allow' + w') + b + (if ended' then 0 else 1) ≤ 2 * (allow + w) + 0 + (if ended then 0 else 1))
    × (((ended ≡ true) × (w ≡ 0) → ⊥) → 2 * (allow' + w') + b + (if ended' then 0 else 1) < 2 * (allow + w) + 0 + (if ended then 0 else 1))
turns_by true true allow allow' w w' b n room seam behind all =
    (omega (arith, (behind refl).1), λ more. by_count (nat_eq b 0) refl more)
  where
    by_count : (none : Bool) → nat_eq b 0 ≡ none → ((true ≡ true) × (w ≡ 0) → ⊥) → 2 * (allow' + w') + b + 0 < 2 * (allow + w) + 0 + 0
    by_count true e more = absurd (more (refl, omega (arith, (behind refl).1, (all (eqb-true b 0 e)).1, eqb-true b 0 e)))
    by_count false e more = omega (arith, (behind refl).1, eqb-false b 0 e)
turns_by true false allow allow' w w' b n room seam behind all = absurd (true≢false (sym (behind refl).0))
turns_by false true allow allow' w w' b n room seam behind all = (omega arith, λ more. omega arith)
turns_by false false allow allow' w w' b n room seam behind all = (by_count (nat_eq b 0) refl, λ more. by_count' (nat_eq b 0) refl)
  where
    some : nat_eq b 0 ≡ false → 0 < b
    some e = omega (arith, eqb-false b 0 e)

    by_count : (none : Bool) → nat_eq b 0 ≡ none → 2 * (allow' + w') + b + 1 ≤ 2 * (allow + w) + 0 + 1
    by_count true e = absurd (true≢false (sym (all (eqb-true b 0 e)).0))
    by_count false e = omega (arith, some e)

    by_count' : (none : Bool) → nat_eq b 0 ≡ none → 2 * (allow' + w') + b + 1 < 2 * (allow + w) + 0 + 1
    by_count' true e = absurd (true≢false (sym (all (eqb-true b 0 e)).0))
    by_count' false e = omega (arith, some e)

pub fill_turns : (left left' : Option (List ℕ)) (p q : PeekerStanding) (before after : List ℕ) (limit taken taken' n : ℕ) → GivesNext left left' p q after n → before ≡ [] → p.peeked ≡ true
    → taken' ≡ taken + n → taken' ≤ limit + 1 → (p.ended ≡ true → q.ended ≡ true) → (length after ≡ 0 → HasGivenAll q)
    → (2 * ((limit + 1 - taken') + length q.waiting) + length after + (if q.ended then 0 else 1)
    ≤ 2 * ((limit + 1 - taken) + length p.waiting) + length before + (if p.ended then 0 else 1))
    × ((HasGivenAll p → ⊥) → 2 * ((limit + 1 - taken') + length q.waiting) + length after + (if q.ended then 0 else 1)
    < 2 * ((limit + 1 - taken) + length p.waiting) + length before + (if p.ended then 0 else 1))
fill_turns left left' p q before after limit taken taken' n next empty peeked is_taken at_most ends all =
    let seam = sym (length-append p.waiting next.moved) ∙ ap length next.seam ∙ length-append after q.waiting in
    let by = turns_by p.ended q.ended (limit + 1 - taken) (limit + 1 - taken') (length p.waiting) (length q.waiting)
    (length after) n (omega arith) (omega (arith, seam, next.count))
    (λ e. (ends e, omega (arith, next.count, ap length (next.behind_end e)))) (λ none. ((all none).ended, ap length (all none).waiting)) in
    let none = ap length empty in (
      omega (arith, by.0, none),
      λ more. omega (
        arith,
        none,
        by.1 (λ given. more (record {
          peeked = peeked;
          waiting = nil_from_length p.waiting given.1;
          ended = given.0;
        })),
      ),
    )

-- a turn of decoding and refilling leaves fewer
pub turn_falls : (a m b : ReaderStanding) → m ≡ record a { decoder = m.decoder; tiny = m.tiny; buffered = m.buffered } → m.buffered ≡ []
    → turns b ≤ turns m → ((HasGivenAll m.peeker → ⊥) → turns b < turns m) → (a.buffered ≡ [] → HasGivenAll a.peeker → ⊥) → turns b < turns a
turn_falls a m b same empty less falls going = by_buffered a.buffered refl
  where
    counted : turns m ≡ 2 * ((a.options.limit + 1 - a.taken) + length a.peeker.waiting) + length m.buffered + (if has_seen_end a then 0 else 1)
    counted = ap (λ s. 2 * ((s.options.limit + 1 - s.taken) + length s.peeker.waiting) + length m.buffered + (if has_seen_end s then 0 else 1)) same

    by_buffered : (buffered : List ℕ) → a.buffered ≡ buffered → turns b < turns a
    by_buffered [] none = omega (arith, counted, ap length empty, falls (λ all. going none (subst HasGivenAll (ap (λ s. s.peeker) same) all)))
    by_buffered (x ∷ rest) some = omega (arith, counted, ap length empty, ap length some)

pub none_of : {A B : Type 0} (f : A → B) (found : Option A) → is_none found ≡ true → option_map f found ≡ None
none_of f None e = refl
none_of f (Some x) e = absurd (true≢false (sym e))

pub some_of : {A B : Type 0} (f : A → B) (found : Option A) → is_none found ≡ false → is_some (option_map f found) ≡ true
some_of f None e = absurd (true≢false e)
some_of f (Some x) e = refl
