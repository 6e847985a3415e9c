-- What the calls of a decoder do: the resume equation, by what is still to come before and after a
-- call (Encoding Standard, sections 4.1 and 6).
use Rattle.std.specs.Prelude.{◌≡◌, ℕ, ◌+◌, ◌-◌, ◌*◌, ◌<◌, ◌≤◌, ◌⊎◌, ◌&&◌, nat_lt, Bool, true, false}
use Rattle.std.specs.Prelude.{if◌then◌else◌, List, [], ◌∷◌, ◌++◌, length, take, drop}
use Rattle.std.specs.List.{All, count_by}
use Rattle.enc_handles.specs.declared.results.CoderResult.{CoderResult}
use Rattle.enc_handles.specs.declared.results.CoderResult.TheVariants as coder
use Rattle.enc_handles.specs.declared.results.DecoderResult.{DecoderResult}
use Rattle.enc_handles.specs.declared.results.DecoderResult.TheVariants as result
use Rattle.enc_drivers.specs.declared.unit.Item.{Item}
use Rattle.enc_drivers.specs.declared.unit.Item.TheVariants as item
use Rattle.enc_drivers.specs.Resume.{text_in, malformed_of, unit_bytes}
use Rattle.enc_drivers.specs.Steps.{MayFollow, IsUndecided}
use Rattle.enc_front.specs.declared.encoding.Encoding.{Encoding}
use Rattle.enc_front.specs.Marks.{mark_of}
use Rattle.enc_front.specs.Units.{unit}
use Rattle.enc_front.specs.Decoder.{no_mark, DecoderPlace, DecoderStanding, past_mark, to_come}
use Rattle.enc_front.specs.Decoder.{encoding_to_come, owed_in, text_to_come_in}
use Rattle.enc_front.specs.Output.{Output, form_of, room_in, replacement_in, text_as}

-- of src, the first `read` bytes were read, and the units `decoded` were written: with any bytes
-- that may follow, the units that were to come are these, the malformed unit if one was met, and
-- those that are to come now, by the same encoding
pub record DecoderResumes (last : Bool) (before after : DecoderPlace) (src : List ℕ) (read : ℕ)
    (decoded malformed : List (Item × ℕ)) : Type 0 where
  pub well_formed : All (λ u. ¬ (u.0 ≡ item.Malformed)) decoded
  pub equation : (more : List ℕ) → MayFollow last more →
      to_come before (src ++ more)
      ≡ decoded ++ (malformed ++ to_come after (drop read src ++ more))
  pub same_encoding : (more : List ℕ) → MayFollow last more
      → encoding_to_come before (src ++ more) ≡ encoding_to_come after (drop read src ++ more)
  pub same_indexes : after.indexes ≡ before.indexes

-- the same, where what was written is the text of the decoded units
pub record DecoderResumesWriting (output : Output) (last : Bool) (before after : DecoderPlace)
    (src : List ℕ) (read : ℕ) (written : List ℕ) (malformed : List (Item × ℕ)) : Type 0 where
  pub decoded : List (Item × ℕ)
  pub resumes : DecoderResumes last before after src read decoded malformed
  pub text : written ≡ text_in (form_of output) decoded

-- what is held is the front of a mark that is removed if its rest follows
pub record HoldsMark (at : DecoderPlace) : Type 0 where
  pub encoding : Encoding
  pub rest : List ℕ
  pub some : 0 < length rest
  pub mark : at.held ++ rest ≡ mark_of encoding
  pub removed : past_mark at.marks at.encoding (at.held ++ rest) ≡ (encoding, [])

-- what is held behind the start are bytes whose unit depends on what follows
pub record HoldsUndecided (at : DecoderPlace) : Type 0 where
  pub started : at.marks ≡ no_mark
  pub undecided : IsUndecided (unit at.encoding at.indexes) at.mode at.held

-- nothing is held, or what follows decides what becomes of it
abbrev pub HoldsOpen : DecoderPlace → Type 0
HoldsOpen at = (at.held ≡ []) ⊎ (HoldsMark at ⊎ HoldsUndecided at)

-- the last of the bytes that were read was needed: a decoder that had not read it stood behind the
-- units `decoded` at a place where nothing was held, a part of a mark, or bytes whose unit depends
-- on what follows; and these and that byte are at least `count` bytes
pub record DecoderNeedsLast (last : Bool) (before : DecoderPlace) (src : List ℕ)
    (read count : ℕ) : Type 0 where
  pub front : DecoderPlace
  pub decoded : List (Item × ℕ)
  pub resumes : DecoderResumes last before front src (read - 1) decoded []
  pub undecided : HoldsOpen front
  pub covers : count ≤ length front.held + 1

-- what may be held where the input is empty: at its end nothing, and else at most three bytes, of a
-- mark or of a unit that depends on what follows
pub record DecoderMayHold (last : Bool) (at : DecoderPlace) : Type 0 where
  pub few : length at.held ≤ 3
  pub end : last ≡ true → at.held ≡ []
  pub undecided : HoldsOpen at

-- a call has used up its input
abbrev pub is_input_empty : DecoderResult → Bool
is_input_empty result.InputEmpty = true
is_input_empty result.OutputFull = false
is_input_empty (result.Malformed n k) = false

abbrev pub has_used_up : CoderResult → Bool
has_used_up coder.InputEmpty = true
has_used_up coder.OutputFull = false

-- the malformed units among units
abbrev pub is_malformed : Item → Bool
is_malformed (item.One scalar) = false
is_malformed (item.Two first second) = false
is_malformed item.Malformed = true
is_malformed item.Silent = false

abbrev pub malformed_count : List (Item × ℕ) → ℕ
malformed_count us = count_by (λ u. is_malformed u.0) us

-- one where U+FFFD is owed
abbrev pub owed_count : DecoderStanding → ℕ
owed_count at = if at.owes then 1 else 0

-- room that is always enough for the text of so many bytes: three for each of them and of three
-- that may be held, three where U+FFFD is owed, and four that are free at the end
abbrev pub room_for : DecoderStanding → ℕ → ℕ
room_for at count = 3 * (count + 3) + 4 + 3 * owed_count at

-- units that end with a malformed one
pub record EndsMalformed (us : List (Item × ℕ)) : Type 0 where
  pub front : List (Item × ℕ)
  pub len : ℕ
  pub is : us ≡ front ++ (item.Malformed, len) ∷ []

-- of src, the first `read` bytes were read: the units that were to come are those decoded and those
-- that are to come now. What was written is U+FFFD where it was owed and the text of the decoded
-- units, without the last U+FFFD where it is owed now, which is that of the last unit or was owed
-- before. `replaced` says whether U+FFFD was written
pub record Replaces (output : Output) (last : Bool) (before after : DecoderStanding) (src : List ℕ)
    (read : ℕ) (written : List ℕ) (replaced : Bool) : Type 0 where
  pub decoded : List (Item × ℕ)
  pub equation : (more : List ℕ) → MayFollow last more
      → to_come before.place (src ++ more) ≡ decoded ++ to_come after.place (drop read src ++ more)
  pub text : owed_in output before ++ text_as output decoded ≡ written ++ owed_in output after
  pub owing : after.owes ≡ true → EndsMalformed decoded ⊎ ((decoded ≡ []) × (before.owes ≡ true))
  pub some_replaced : replaced
      ≡ nat_lt (owed_count after) (malformed_count decoded + owed_count before)
  pub same_encoding : (more : List ℕ) → MayFollow last more
      → encoding_to_come before.place (src ++ more)
      ≡ encoding_to_come after.place (drop read src ++ more)
  pub same_indexes : after.place.indexes ≡ before.place.indexes

-- a call without replacement, to UTF-8 or UTF-16: it tells how it ended, has read the first n bytes
-- of src and written the first m bytes of `new`, where `old` was before
pub record Decodes (output : Output) (last : Bool) (before after : DecoderStanding)
    (src old new : List ℕ) (tells : DecoderResult) (n m : ℕ) : Type 0 where
  pub resumes : DecoderResumesWriting output last before.place after.place src n (take m new)
      (malformed_of tells)
  pub read : n ≤ length src
  pub written : m ≤ length new
  pub len : length new ≡ length old
  pub few : length after.place.held ≤ 3
  pub short : m + 3 * (length (malformed_of tells) + length after.place.held)
      ≤ 3 * (length before.place.held + n)
  pub input_empty : tells ≡ result.InputEmpty → (n ≡ length src) × DecoderMayHold last after.place
  pub output_full : tells ≡ result.OutputFull → length new - m < room_in output
  pub pending : tells ≡ result.OutputFull → 0 < length after.place.held + (length src - n)
  pub malformed : (size behind : ℕ) → tells ≡ result.Malformed size behind
      → behind ≡ length after.place.held
  pub read_ahead : 0 < n → 0 < length after.place.held
      → DecoderNeedsLast last before.place src n
      (unit_bytes (malformed_of tells) + length after.place.held)
  pub end : after.finished ≡ (last && is_input_empty tells)
  pub nothing_owed : after.owes ≡ false

-- a call with replacement, likewise; `replaced` says whether it wrote U+FFFD
pub record DecodesReplacing (output : Output) (last : Bool) (before after : DecoderStanding)
    (src old new : List ℕ) (tells : CoderResult) (n m : ℕ) (replaced : Bool) : Type 0 where
  pub replaces : Replaces output last before after src n (take m new) replaced
  pub text : (more : List ℕ) → MayFollow last more
      → text_to_come_in output before (src ++ more)
      ≡ take m new ++ text_to_come_in output after (drop n src ++ more)
  pub read : n ≤ length src
  pub written : m ≤ length new
  pub len : length new ≡ length old
  pub few : length after.place.held ≤ 3
  pub short : m + 3 * (length after.place.held + owed_count after)
      ≤ 3 * (length before.place.held + n + owed_count before)
  pub input_empty : tells ≡ coder.InputEmpty → (n ≡ length src) × (after.owes ≡ false)
      × DecoderMayHold last after.place
  pub output_full : tells ≡ coder.OutputFull → length new - m < room_in output
  pub enough : room_for before (length src) ≤ length new → ¬ (tells ≡ coder.OutputFull)
  pub pending : tells ≡ coder.OutputFull
      → 0 < length after.place.held + (length src - n) + owed_count after
  pub owed : after.owes ≡ true → length new - m < length (replacement_in output)
  pub goes_on : room_in output ≤ length new → m ≡ 0 → n ≡ length src
  pub end : after.finished ≡ (last && has_used_up tells)
