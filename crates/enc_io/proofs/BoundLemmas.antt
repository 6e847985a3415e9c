-- How long the text is that a reader has still to give at most.
use Rattle.std.proofs.Common.{◌≡◌, ℕ, ◌+◌, ◌*◌, ◌<◌, ◌≤◌, Bool, true, false, if◌then◌else◌, List, [], ◌∷◌, ◌++◌, ◌∙◌, length, take, drop, None, Some, ap, refl, arith, length-append, length-drop, length-take}
use Rattle.std.specs.declared.option.Option.{Option}
use Rattle.std.specs.Option.{ForSome, option_map, option_map_or}
use Rattle.std.specs.Prelude.{nat_eq}
use Rattle.std.specs.List.{starts_with}
use Rattle.std.proofs.lemmas.List.Elements.{All-nil, All-cons, All-drop}
use Rattle.enc_drivers.specs.Units.{AreBytes, units, text, replacement}
use Rattle.enc_drivers.proofs.UnitLemmas.{short_text_law}
use Rattle.enc_front.specs.declared.decoder.Decoder.{Decoder}
use Rattle.enc_front.specs.declared.encoding.Encoding.{Encoding}
use Rattle.enc_front.specs.declared.mark.MarkPart.{MarkPart}
use Rattle.enc_front.specs.declared.mark.MarkPart.TheVariants.{Ef, EfBb, Fe, Ff}
use Rattle.enc_front.specs.declared.mark.Start.{Start}
use Rattle.enc_front.specs.declared.mark.Start.TheVariants.{Any, Own, Seen, Over}
use Rattle.enc_front.specs.declared.tables.Tables.{Tables}
use Rattle.enc_front.specs.Decoder.{Marks, any_mark, own_mark, no_mark, DecoderStanding, past_mark, owed, text_to_come}
use Rattle.enc_front.specs.DecoderCalls.{DecoderMayHold, owed_count}
use Rattle.enc_front.specs.DecoderView.{held_at, place_of, standing_of}
use Rattle.enc_front.specs.Indexes.{indexes_of}
use Rattle.enc_front.specs.Marks.{mark, mark_of, own}
use Rattle.enc_front.specs.Start.{part_bytes}
use Rattle.enc_front.specs.Units.{unit, decoded}
use Rattle.enc_front.specs.Variant.{standing_in}
use Rattle.enc_front.specs.Lemmas.Held.{few_held}
use Rattle.enc_front.proofs.UnitLaws.{encoding_code}
use Rattle.enc_io.specs.Options.{Options}
use Rattle.enc_io.specs.Peeker.{stream_bytes}
use Rattle.enc_io.specs.Reader.{still, still_behind}
use Rattle.enc_io.specs.ReaderCalls.{KeepsLittle}
use Rattle.enc_io.specs.Text.{chosen, stream_text}
use Rattle.enc_io.specs.BuilderView.{options_of}
use Rattle.enc_io.specs.declared.outside.Source.{Ghosts}
use Rattle.enc_io.specs.declared.reader.DecodeReaderBytes.{DecodeReaderBytes}
use Rattle.enc_io.specs.Marks.{bom_bytes}
use Rattle.enc_io.specs.ReaderView as reader
use Rattle.enc_io.specs.Tiny.{waiting_of}
use Rattle.enc_io.proofs.PeekerLemmas.{gathered_bytes, gathered_few}
use Rattle.enc_io.proofs.ReaderLemmas.{still_on, still_front, join_bytes, buffered_length}

-- some bytes of these, from a place on
record IsRest (rest bytes : List ℕ) : Type 0 where
  pub from : ℕ
  pub is : rest ≡ drop from bytes

rest_short : (rest bytes : List ℕ) → IsRest rest bytes → length rest ≤ length bytes
rest_short rest bytes is = omega (arith, ap length is.is, length-drop is.from bytes)

rest_bytes : (rest bytes : List ℕ) → IsRest rest bytes → AreBytes bytes → AreBytes rest
rest_bytes rest bytes is are = rw is.is (All-drop (λ b. b < 256) is.from bytes are)

mark_rest : (found : Option (Encoding × ℕ)) (bytes : List ℕ) → IsRest (option_map_or (λ m. drop m.1 bytes) found bytes) bytes
mark_rest None bytes = record { from = 0; is = refl }
mark_rest (Some m) bytes = record { from = m.1; is = refl }

own_rest_if : (begins : Bool) (n : ℕ) (bytes : List ℕ) → IsRest (if begins then drop n bytes else bytes) bytes
own_rest_if true n bytes = record { from = n; is = refl }
own_rest_if false n bytes = record { from = 0; is = refl }

own_rest : (encoding : Encoding) (bytes : List ℕ) → IsRest (own encoding bytes) bytes
own_rest encoding bytes = own_rest_if (starts_with nat_eq bytes (mark_of encoding)) (length (mark_of encoding)) bytes

past_rest : (marks : Marks) (encoding : Encoding) (bytes : List ℕ) → IsRest ((past_mark marks encoding bytes).1) bytes
unfolding past_mark
past_rest any_mark encoding bytes = mark_rest (mark bytes) bytes
past_rest own_mark encoding bytes = own_rest encoding bytes
past_rest no_mark encoding bytes = record { from = 0; is = refl }

body_rest : (strips : Bool) (bytes : List ℕ) → IsRest (stream_bytes strips bytes) bytes
body_rest true bytes = mark_rest (mark bytes) bytes
body_rest false bytes = record { from = 0; is = refl }

-- the text of bytes has at most three for each
short_decoded : (tables : Tables) (encoding : Encoding) (bytes : List ℕ) → AreBytes bytes → length (decoded encoding (indexes_of tables) bytes) ≤ 3 * length bytes
unfolding decoded
short_decoded tables encoding bytes are = short_text_law (unit encoding (indexes_of tables)) (encoding_code tables encoding) _ bytes are

short_choice : (tables : Tables) (found : Option Encoding) (body : List ℕ) → AreBytes body
    → length (option_map_or (λ encoding. decoded encoding (indexes_of tables) (own encoding body)) found body) ≤ 3 * length body
short_choice tables None body are = omega arith
short_choice tables (Some encoding) body are =
    let rest = own_rest encoding body in
    omega (arith, short_decoded tables encoding (own encoding body) (rest_bytes (own encoding body) body rest are), rest_short (own encoding body) body rest)

-- the text of a stream has at most three bytes for each
pub short_stream : (options : Options) (tables : Tables) (bytes : List ℕ) → AreBytes bytes → length (stream_text options (indexes_of tables) bytes) ≤ 3 * length bytes
unfolding stream_text
short_stream options tables bytes are =
    let body = body_rest options.strip_bom bytes in
    omega (
      arith,
      short_choice tables (chosen options bytes) (stream_bytes options.strip_bom bytes) (rest_bytes (stream_bytes options.strip_bom bytes) bytes body are),
      rest_short (stream_bytes options.strip_bom bytes) bytes body,
    )

one_byte : (b : ℕ) → b < 256 → AreBytes (b ∷ [])
one_byte b fits = All-cons (λ x. x < 256) b [] fits (All-nil (λ x. x < 256))

part_are_bytes : (part : MarkPart) → AreBytes (part_bytes part)
part_are_bytes Ef = one_byte 0xEF (omega arith)
part_are_bytes EfBb = All-cons (λ x. x < 256) 0xEF (0xBB ∷ []) (omega arith) (one_byte 0xBB (omega arith))
part_are_bytes Fe = one_byte 0xFE (omega arith)
part_are_bytes Ff = one_byte 0xFF (omega arith)

held_are_bytes : (start : Start) (held : List ℕ) → AreBytes held → AreBytes (held_at start held)
held_are_bytes Any held are = All-nil (λ x. x < 256)
held_are_bytes Own held are = All-nil (λ x. x < 256)
held_are_bytes (Seen part) held are = part_are_bytes part
held_are_bytes Over held are = are

owed_short : (at : DecoderStanding) → length (owed at) ≤ 3 * owed_count at
owed_short at = by at.owes
  where
    by : (owes : Bool) → length (if owes then replacement else []) ≤ 3 * (if owes then 1 else 0)
    by true = omega arith
    by false = omega arith

-- what a decoder has still to give has at most three bytes for each that it holds or that comes, and for U+FFFD that it owes
pub short_to_come : (decoder : Decoder) (bytes : List ℕ) → AreBytes bytes
    → length (text_to_come (standing_of decoder) bytes) ≤ 3 * (length (place_of decoder).held + length bytes + owed_count (standing_of decoder))
short_to_come decoder bytes are =
    let at = place_of decoder in
    let all = at.held ++ bytes in
    let held : AreBytes at.held = held_are_bytes decoder.start ((standing_in decoder.variant).held ++ decoder.replay.now)
    (join_bytes (standing_in decoder.variant).held decoder.replay.now decoder.bytes decoder.replay_bytes) in
    let rest = past_rest at.marks at.encoding all in
    let past = past_mark at.marks at.encoding all in
    omega (
      arith,
      length-append (owed (standing_of decoder)) (text (units (unit past.0 at.indexes) at.mode past.1)),
      owed_short (standing_of decoder),
      short_text_law (unit past.0 at.indexes) (encoding_code decoder.tables.now past.0) at.mode past.1 (rest_bytes past.1 all rest (join_bytes at.held bytes held are)),
      rest_short past.1 all rest,
      length-append at.held bytes,
    )

owed_few : (owes : Bool) → (if owes then 1 else 0) ≤ 1
owed_few true = omega arith
owed_few false = omega arith

-- what is still to give behind the front, of these bytes
short_behind : (found : Option Decoder) (bytes : List ℕ) → AreBytes bytes → length (still_behind (option_map standing_of found) bytes) ≤ 3 * (length bytes + 4)
unfolding still_behind
short_behind None bytes are = omega arith
short_behind (Some decoder) bytes are = by decoder.finished
  where
    by : (finished : Bool) → length (if finished then [] else text_to_come (standing_of decoder) bytes) ≤ 3 * (length bytes + 4)
    by true = omega arith
    by false = omega (arith, short_to_come decoder bytes are, few_held decoder, owed_few decoder.owes)

-- what a reader has still to give where nothing more comes is bounded by its buffer
pub small_reader : {S : Type 0} {g : Ghosts S} (r : DecodeReaderBytes S g) → length (still (reader.standing_of r) []) ≤ 3 * (length r.buf.items + 10)
small_reader r = by_front r.has_detected refl
  where
    tiny_few : length (waiting_of r.tiny) ≤ 7
    tiny_few = omega (arith, length-drop r.tiny.pos (take r.tiny.len r.tiny.partial), length-take r.tiny.len r.tiny.partial, r.tiny.within)

    gathered : AreBytes (bom_bytes r.rdr.bom)
    gathered = gathered_bytes r.rdr.bom.bytes r.rdr.bom.len r.rdr.bom.are_bytes

    few : length (bom_bytes r.rdr.bom) ≤ 3
    few = gathered_few r.rdr.bom.bytes r.rdr.bom.len r.rdr.bom.within

    no_bytes : AreBytes []
    no_bytes = All-nil (λ x. x < 256)

    by_front : (detected : Bool) → r.has_detected ≡ detected → length (still (reader.standing_of r) []) ≤ 3 * (length r.buf.items + 10)
    by_front true e =
        let waiting = drop r.rdr.place (bom_bytes r.rdr.bom) in
        let buffered = drop r.pos (take r.buflen r.buf.items) in
        let bytes = buffered ++ (waiting ++ []) in
        let are : AreBytes bytes = join_bytes buffered (waiting ++ []) (All-drop (λ x. x < 256) r.pos (take r.buflen r.buf.items) r.are_bytes)
        (join_bytes waiting [] (All-drop (λ x. x < 256) r.rdr.place (bom_bytes r.rdr.bom) gathered) no_bytes) in
        omega (
          arith,
          ap length (still_on (reader.standing_of r) [] e),
          length-append (waiting_of r.tiny) (still_behind (option_map standing_of r.decoder) bytes),
          tiny_few,
          short_behind r.decoder bytes are,
          length-append buffered (waiting ++ []),
          length-append waiting [],
          length-drop r.rdr.place (bom_bytes r.rdr.bom),
          few,
          buffered_length r.pos r.buflen r.buf.items r.buf_within,
          r.buf_within,
        )
    by_front false e =
        let none = r.passes (r.is_none e) in
        let bytes = bom_bytes r.rdr.bom ++ [] in
        omega (
          arith,
          ap length (still_front (reader.standing_of r) [] e none.0),
          short_stream (options_of r.options) r.tables.now bytes (join_bytes (bom_bytes r.rdr.bom) [] gathered no_bytes),
          length-append (bom_bytes r.rdr.bom) [],
          few,
        )

-- what a decoder has still to give of the bytes that it holds, where these are undecided and nothing is owed
few_behind : (found : Option Decoder) → ForSome (option_map standing_of found) (λ decoder. (decoder.owes ≡ false) × DecoderMayHold false decoder.place)
    → length (still_behind (option_map standing_of found) []) ≤ 9
unfolding still_behind
few_behind None holds = omega arith
few_behind (Some decoder) holds = by decoder.finished
  where
    nothing_owed : owed_count (standing_of decoder) ≡ 0
    nothing_owed = ap (λ (owes : Bool). if owes then 1 else 0) (holds (standing_of decoder) refl).0

    by : (finished : Bool) → length (if finished then [] else text_to_come (standing_of decoder) []) ≤ 9
    by true = omega arith
    by false = omega (arith, short_to_come decoder [] (All-nil (λ x. x < 256)), few_held decoder, nothing_owed)

-- a reader that keeps little has at most nine bytes to give where nothing more comes
pub few_reader : {S : Type 0} {g : Ghosts S} (r : DecodeReaderBytes S g) → KeepsLittle (reader.standing_of r) → length (still (reader.standing_of r) []) ≤ 9
few_reader r keeps = by_front r.has_detected refl
  where
    gathered : AreBytes (bom_bytes r.rdr.bom)
    gathered = gathered_bytes r.rdr.bom.bytes r.rdr.bom.len r.rdr.bom.are_bytes

    by_front : (detected : Bool) → r.has_detected ≡ detected → length (still (reader.standing_of r) []) ≤ 9
    by_front true e =
        let waiting = drop r.rdr.place (bom_bytes r.rdr.bom) in
        let buffered = drop r.pos (take r.buflen r.buf.items) in
        let found = option_map standing_of r.decoder in
        let nothing : still (reader.standing_of r) [] ≡ still_behind found [] =
        still_on (reader.standing_of r) [] e
        ∙ ap (λ l. l ++ still_behind found (buffered ++ (waiting ++ []))) keeps.undecided.tiny
        ∙ ap (λ l. still_behind found (l ++ (waiting ++ []))) keeps.undecided.buffered
        ∙ ap (λ l. still_behind found (l ++ [])) (keeps.waiting e) in
        omega (arith, ap length nothing, few_behind r.decoder keeps.undecided.held)
    by_front false e =
        let front = keeps.gathering e in
        let bytes = bom_bytes r.rdr.bom ++ [] in
        omega (
          arith,
          ap length (still_front (reader.standing_of r) [] e keeps.undecided.tiny),
          short_stream (options_of r.options) r.tables.now bytes (join_bytes (bom_bytes r.rdr.bom) [] gathered (All-nil (λ x. x < 256))),
          length-append (bom_bytes r.rdr.bom) [],
          front.0,
          front.1,
        )
