-- What one call of a decoder does for a reader of a stream's text.
use Rattle.std.proofs.Common.{◌≡◌, ℕ, ◌+◌, ◌-◌, ◌*◌, ◌<◌, ◌≤◌, Bool, true, false, true≢false, ◌&&◌, if◌then◌else◌, List, [], ◌++◌, length, take, drop, Some, sym, ap, refl, ◌∙◌, arith, append_assoc, length-append, length-drop, length-take-le, min}
use Rattle.std.proofs.Math.Seq.{drop-nil}
use Rattle.std.proofs.lemmas.List.{nil_from_length}
use Rattle.enc_handles.specs.declared.results.CoderResult.{CoderResult}
use Rattle.enc_handles.specs.declared.results.CoderResult.TheVariants.{InputEmpty, OutputFull}
use Rattle.enc_drivers.specs.Steps.{MayFollow}
use Rattle.enc_drivers.specs.Units.{AreBytes}
use Rattle.enc_front.specs.DecoderCalls.{DecodesReplacing, DecoderMayHold, has_used_up, owed_count}
use Rattle.enc_front.specs.Decoder.{DecoderStanding, text_to_come}
use Rattle.enc_front.specs.Output.{utf_8}
use Rattle.enc_io.specs.Peeker.{FrontWaits, HasGivenAll, stream_bytes}
use Rattle.enc_io.specs.Text.{chosen}
use Rattle.enc_io.specs.Pieces.{DecodesPiece}
use Rattle.enc_io.specs.Reader.{ReaderStanding, still, still_behind, decoder_number}
use Rattle.enc_io.specs.ReaderCalls.{GoesOn}
use Rattle.enc_io.proofs.ChoiceLemmas.{nothing_to_come, decoder_for, chosen_text, number_for}
use Rattle.enc_io.proofs.ReaderLemmas.{still_front, still_on, number_front, number_on, goes_still, join_bytes}

-- a call that wrote nothing into room has used up its input
used_up : (result : CoderResult) (room count : ℕ) → (result ≡ OutputFull → room - count < 4) → 4 ≤ room → count ≡ 0 → result ≡ InputEmpty
used_up InputEmpty room count full large none = refl
used_up OutputFull room count full large none = absurd (omega (arith, full refl))

and_true : (b : Bool) → (b && true) ≡ b
and_true true = refl
and_true false = refl

both_true : (last : Bool) (result : CoderResult) → (last && has_used_up result) ≡ true → (last ≡ true) × (result ≡ InputEmpty)
both_true true InputEmpty e = (refl, refl)
both_true true OutputFull e = absurd (true≢false (sym e))
both_true false result e = absurd (true≢false (sym e))

-- a call of a decoder with room for four bytes or more, of which some are given and the others wait
pub decodes_piece : (result : CoderResult) (last : Bool) (before after : DecoderStanding) (src given waits : List ℕ) (read room count : ℕ)
    → ((more : List ℕ) → MayFollow last more → text_to_come before (src ++ more) ≡ given ++ (waits ++ text_to_come after (drop read src ++ more)))
    → length given + length waits + 3 * (length after.place.held + owed_count after) ≤ 3 * (length before.place.held + read + owed_count before)
    → (result ≡ InputEmpty → (read ≡ length src) × (after.owes ≡ false) × DecoderMayHold last after.place) → (result ≡ OutputFull → room - count < 4)
    → 4 ≤ room → after.finished ≡ (last && has_used_up result) → (given ≡ [] → (count ≡ 0) × (waits ≡ [])) → DecodesPiece last before after src read given waits
decodes_piece result last before after src given waits read room count text falls empty full large end none = record {
  text = text;
  falls = falls;
  all = λ nothing.
      let done = used_up result room count full large (none nothing).0 in
      let all = empty done in
      (all.0, (none nothing).1, all.1, all.2, end ∙ ap (λ r. last && has_used_up r) done ∙ and_true last);
  end = λ finished.
      let both = both_true last result (sym end ∙ finished) in
      let all = empty both.1 in
      (both.0, nothing_to_come after all.1 (all.2.end both.0));
}

-- what is still to give by a decoder that hasn't finished, or has
behind_some : (decoder : DecoderStanding) (bytes : List ℕ) → decoder.finished ≡ false → still_behind (Some decoder) bytes ≡ text_to_come decoder bytes
unfolding still_behind
behind_some decoder bytes going = ap (λ b. if b then [] else text_to_come decoder bytes) going

behind_finished : (decoder : DecoderStanding) (bytes : List ℕ) → decoder.finished ≡ true → still_behind (Some decoder) bytes ≡ []
unfolding still_behind
behind_finished decoder bytes done = ap (λ b. if b then [] else text_to_come decoder bytes) done

pub number_some : (decoder : DecoderStanding) → decoder_number (Some decoder) ≡ length decoder.place.held + owed_count decoder
unfolding decoder_number
number_some decoder = refl

-- where a decoder has finished, there is nothing behind; else it is its text
behind_rest : (last : Bool) (decoder : DecoderStanding) (finished : Bool) (bytes : List ℕ) → decoder.finished ≡ finished
    → (decoder.finished ≡ true → (last ≡ true) × (text_to_come decoder [] ≡ [])) → (last ≡ true → bytes ≡ [])
    → text_to_come decoder bytes ≡ still_behind (Some decoder) bytes
behind_rest last decoder false bytes is end none = sym (behind_some decoder bytes is)
behind_rest last decoder true bytes is end none =
    ap (text_to_come decoder) (none (end is).0) ∙ (end is).1 ∙ sym (behind_finished decoder bytes is)

-- a piece was decoded
pub goes_decode : (a b : ReaderStanding) (last : Bool) (before after : DecoderStanding) (read : ℕ) (given : List ℕ) → DecodesPiece last before after a.buffered read given b.tiny
    → a.detected ≡ true → a.tiny ≡ [] → a.decoder ≡ Some before → b.decoder ≡ Some after → before.finished ≡ false
    → b ≡ record a { decoder = b.decoder; tiny = b.tiny; buffered = b.buffered } → b.buffered ≡ drop read a.buffered → read ≤ length a.buffered
    → AreBytes a.peeker.waiting → (last ≡ true → HasGivenAll a.peeker × (a.buffered ≡ []))
    → length a.peeker.gathered ≤ 3 → a.taken ≤ a.options.limit → GoesOn a b given
goes_decode a b last before after read given piece detected none_waits is_before is_after going same rest_is within waiting ends few limit =
    let detected' : b.detected ≡ true = ap (λ s. s.detected) same ∙ detected in
    goes_still a b given (same ∙ ap (λ d. record a { detected = d; decoder = b.decoder; tiny = b.tiny; buffered = b.buffered }) (detected ∙ sym detected')) few limit
    (λ rest are none.
    let ahead = a.peeker.waiting ++ rest in
    let follows : MayFollow last ahead = record {
      bytes = join_bytes a.peeker.waiting rest waiting are;
      none = λ e. ap (λ l. l ++ rest) (ends e).0.waiting ∙ none (ends e).0.ended;
    } in
    still_on a rest detected
    ∙ ap (λ l. l ++ still_behind a.decoder (a.buffered ++ ahead)) none_waits
    ∙ ap (λ d. still_behind d (a.buffered ++ ahead)) is_before
    ∙ behind_some before (a.buffered ++ ahead) going
    ∙ piece.text ahead follows
    ∙ ap (λ l. given ++ (b.tiny ++ l)) (
    behind_rest last after after.finished (drop read a.buffered ++ ahead) refl piece.end
    (λ e. ap (λ l. drop read l ++ ahead) (ends e).1 ∙ ap (λ l. l ++ ahead) (drop-nil read) ∙ follows.none e)
    ∙ ap (λ l. still_behind (Some after) (l ++ ahead)) (sym rest_is)
    ∙ ap (λ d. still_behind d (b.buffered ++ ahead)) (sym is_after)
    ∙ ap (λ p. still_behind b.decoder (b.buffered ++ (p.waiting ++ rest))) (sym (ap (λ s. s.peeker) same)))
    ∙ ap (λ l. given ++ l) (sym (still_on b rest detected')))
    (omega (
      arith,
      piece.falls,
      number_on a detected,
      number_on b detected',
      ap decoder_number is_before,
      ap decoder_number is_after,
      number_some before,
      number_some after,
      ap length rest_is,
      length-drop read a.buffered,
      ap length none_waits,
      ap (λ s. length s.peeker.waiting) same,
      ap (λ s. s.options.limit) same,
      ap (λ s. s.taken) same,
    ))

-- nothing is left where a decoder has finished
pub finished_still : (at : ReaderStanding) (decoder : DecoderStanding) → at.detected ≡ true → at.decoder ≡ Some decoder → decoder.finished ≡ true → at.tiny ≡ [] → still at [] ≡ []
finished_still at decoder detected is done none_waits =
    still_on at [] detected
    ∙ ap (λ l. l ++ still_behind at.decoder (at.buffered ++ (at.peeker.waiting ++ []))) none_waits
    ∙ ap (λ d. still_behind d (at.buffered ++ (at.peeker.waiting ++ []))) is
    ∙ behind_finished decoder (at.buffered ++ (at.peeker.waiting ++ [])) done

-- a call of a decoder that wrote to the caller's buffer
pub decodes_direct : (result : CoderResult) (last replaced : Bool) (before after : DecoderStanding) (src old new waits : List ℕ) (read written : ℕ)
    → DecodesReplacing utf_8 last before after src old new result read written replaced → waits ≡ [] → 4 ≤ length new → DecodesPiece last before after src read (take written new) waits
decodes_direct result last replaced before after src old new waits read written call none large =
    let given = length-take-le written new call.written in
    decodes_piece result last before after src (take written new) waits read (length new) written
    (λ more follow. call.text more follow ∙ ap (λ l. take written new ++ (l ++ text_to_come after (drop read src ++ more))) (sym none))
    (omega (arith, call.short, given, ap length none)) call.input_empty call.output_full large call.end
    (λ nothing. (omega (arith, given, ap length nothing), none))

-- a call of a decoder that wrote seven bytes at most, of which some were given then
pub decodes_few : (result : CoderResult) (last : Bool) (before after : DecoderStanding) (src waiting waits buf : List ℕ) (read written count : ℕ)
    → ((more : List ℕ) → MayFollow last more → text_to_come before (src ++ more) ≡ waiting ++ text_to_come after (drop read src ++ more))
    → written ≡ length waiting → written + 3 * (length after.place.held + owed_count after) ≤ 3 * (length before.place.held + read + owed_count before)
    → (result ≡ InputEmpty → (read ≡ length src) × (after.owes ≡ false) × DecoderMayHold last after.place) → (result ≡ OutputFull → 7 - written < 4)
    → after.finished ≡ (last && has_used_up result) → count ≡ min (length buf) (length waiting) → count ≤ length buf → 0 < length buf → waiting ≡ take count buf ++ waits
    → DecodesPiece last before after src read (take count buf) waits
decodes_few result last before after src waiting waits buf read written count text is_written falls empty full end is_count within room split =
    let given = length-take-le count buf within in
    let parts = ap length split ∙ length-append (take count buf) waits in
    decodes_piece result last before after src (take count buf) waits read 7 written
    (λ more follow. text more follow ∙ ap (λ l. l ++ text_to_come after (drop read src ++ more)) split ∙ append_assoc (take count buf) waits (text_to_come after (drop read src ++ more)))
    (omega (arith, falls, is_written, parts)) empty full (omega arith) end
    (λ nothing.
    let none : count ≡ 0 = omega (arith, given, ap length nothing) in
    let none_waits : length waiting ≡ 0 = omega (arith, is_count) in
    (omega (arith, is_written, none_waits), nil_from_length waits (omega (arith, parts, none_waits))))

-- the encoding was chosen
pub goes_choose : (a b : ReaderStanding) → a.detected ≡ false → b.detected ≡ true → a.tiny ≡ [] → a.buffered ≡ [] → FrontWaits a.peeker → a.peeker.strips ≡ a.options.strip_bom
    → b.decoder ≡ decoder_for a.indexes (chosen a.options a.peeker.gathered) → b ≡ record a { detected = b.detected; decoder = b.decoder }
    → length a.peeker.gathered ≤ 3 → length a.peeker.waiting ≤ length a.peeker.gathered → a.taken ≤ a.options.limit → GoesOn a b []
goes_choose a b undetected detected none_waits empty front strips is same few waiting within =
    let empty' : b.buffered ≡ [] = ap (λ s. s.buffered) same ∙ empty in
    let none_waits' : b.tiny ≡ [] = ap (λ s. s.tiny) same ∙ none_waits in
    goes_still a b []
    (same ∙ ap (λ s. record a { detected = s.detected; decoder = s.decoder; tiny = s.tiny; buffered = s.buffered }) (sym same)) few within
    (λ rest are none.
    still_front a rest undetected none_waits
    ∙ chosen_text a.options a.indexes a.peeker.ended a.peeker.gathered a.peeker.waiting rest front.whole none
    (ap (λ s. stream_bytes s (a.peeker.gathered ++ rest)) (sym strips) ∙ front.front rest none)
    ∙ ap (λ d. still_behind d (a.peeker.waiting ++ rest)) (sym is)
    ∙ ap (λ p. still_behind b.decoder (p.waiting ++ rest)) (sym (ap (λ s. s.peeker) same))
    ∙ ap (λ l. still_behind b.decoder (l ++ (b.peeker.waiting ++ rest))) (sym empty')
    ∙ ap (λ l. l ++ still_behind b.decoder (b.buffered ++ (b.peeker.waiting ++ rest))) (sym none_waits')
    ∙ sym (still_on b rest detected))
    (omega (
      arith,
      number_front a undetected,
      number_on b detected,
      ap decoder_number is,
      number_for a.indexes (chosen a.options a.peeker.gathered),
      ap length empty',
      ap length none_waits',
      waiting,
      ap (λ s. length s.peeker.waiting) same,
      ap (λ s. s.options.limit) same,
      ap (λ s. s.taken) same,
    ))
