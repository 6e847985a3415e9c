-- One call that ends a stream has decoded all of it, over plain values.
use Rattle.std.proofs.Common.{◌≡◌, ℕ, ◌+◌, ◌-◌, ◌<◌, ◌≤◌, Bool, true, false, cond, List, [], ◌∷◌, ◌++◌, length, take, drop, refl, ap, sym, ◌∙◌, arith, length-drop}
use Rattle.std.specs.Prelude.{nat_lt, nat_eq, if◌then◌else◌, ◌||◌}
use Rattle.std.specs.List.{starts_with}
use Rattle.std.specs.Option.{option_map_or}
use Rattle.std.specs.Str.{IsUtf8}
use Rattle.std.proofs.lemmas.Bool.{lt-ltb}
use Rattle.std.proofs.lemmas.List.{append-nil, nil_from_length, length-append, length-take-le, take-take, take-append-le, take_all, take_at}
use Rattle.std.proofs.lemmas.List.Elements.{All-nil, All-drop}
use Rattle.std.proofs.lemmas.List.Sums.{sum_by-cons}
use Rattle.enc_drivers.specs.declared.unit.Item.{Item}
use Rattle.enc_drivers.specs.Units.{AreBytes, units, text, replacement}
use Rattle.enc_drivers.proofs.UnitLemmas.{units_nil}
use Rattle.enc_front.specs.declared.encoding.Encoding.{Encoding}
use Rattle.enc_front.specs.declared.encoding.Encoding.TheVariants.{Utf8, Utf16Be, Utf16Le}
use Rattle.enc_front.specs.declared.tables.Tables.{Tables}
use Rattle.enc_front.specs.Decoder.{Marks, any_mark, own_mark, no_mark, DecoderPlace}
use Rattle.enc_front.specs.Decoder.{DecoderStanding, past_mark, to_come, owed}
use Rattle.enc_front.specs.DecoderCalls.{Replaces, is_malformed, malformed_count, owed_count}
use Rattle.enc_front.specs.Indexes.{indexes_of}
use Rattle.enc_front.specs.Marks.{mark_of}
use Rattle.enc_front.specs.Output.{utf_8}
use Rattle.enc_front.specs.Units.{unit}
use Rattle.enc_front.specs.Whole.{some_malformed}
use borrow.Rule.Slice.PartMut.{put_mid, post_of}
use Rattle.enc_front.proofs.WriteLemmas.{written_more}
use Rattle.enc_front.proofs.TextLemmas.{found, nothing_past, text_within}
use Rattle.enc_front.proofs.UnitLaws.{encoding_code}

-- the bytes past a mark are bytes
pub past_bytes : (marks : Marks) (encoding : Encoding) (bytes : List ℕ) → AreBytes bytes
    → AreBytes (past_mark marks encoding bytes).1
unfolding past_mark
past_bytes any_mark encoding bytes are =
    by_mark (starts_with nat_eq bytes (mark_of Utf8)) (starts_with nat_eq bytes (mark_of Utf16Be))
    (starts_with nat_eq bytes (mark_of Utf16Le))
  where
    by_mark : (a b c : Bool) → AreBytes (option_map_or (λ m. drop m.1 bytes) (found a b c) bytes)
    by_mark true b c = All-drop (λ x. x < 256) 3 bytes are
    by_mark false true c = All-drop (λ x. x < 256) 2 bytes are
    by_mark false false true = All-drop (λ x. x < 256) 2 bytes are
    by_mark false false false = are
past_bytes own_mark encoding bytes are = by_own (starts_with nat_eq bytes (mark_of encoding))
  where
    by_own : (a : Bool) → AreBytes (cond a (drop (length (mark_of encoding)) bytes) bytes)
    by_own true = All-drop (λ x. x < 256) (length (mark_of encoding)) bytes are
    by_own false = are
past_bytes no_mark encoding bytes are = are

-- the text of a stream is UTF-8
pub stream_utf_8 : (tables : Tables) (at : DecoderPlace) (bytes : List ℕ)
    → at.indexes ≡ indexes_of tables → at.held ≡ [] → AreBytes bytes
    → IsUtf8 (text (to_come at bytes))
stream_utf_8 tables at bytes same none are =
    let past = past_mark at.marks at.encoding bytes in
    rw (same, none) (text_within (unit past.0 (indexes_of tables)) (encoding_code tables past.0)
    (length past.1) at.mode past.1 (past_bytes at.marks at.encoding bytes are) (omega arith))

-- at the end no unit is to come
no_units : (at : DecoderPlace) (rest : List ℕ) → rest ≡ [] → at.held ≡ [] → to_come at rest ≡ []
no_units at rest none held =
    let bytes : at.held ++ rest ≡ [] = ap (λ (l : List ℕ). l ++ rest) held ∙ none in
    let past : (past_mark at.marks at.encoding (at.held ++ rest)).1
    ≡ [] = rw bytes (nothing_past at.marks at.encoding) in
    let code = unit (past_mark at.marks at.encoding (at.held ++ rest)).0 at.indexes in
    ap (λ (l : List ℕ). units code at.mode l) past ∙ units_nil code at.mode

none_owed : (at : DecoderStanding) → at.owes ≡ false → owed at ≡ []
none_owed at e = ap (λ (t : Bool). if t then replacement else []) e

some_by : (t r : Bool) (n : ℕ) → nat_lt 0 (n + 0) ≡ r → nat_lt 0 ((cond t 1 0 + n) + 0) ≡ (t || r)
some_by true r n e = lt-ltb 0 ((1 + n) + 0) (omega arith)
some_by false r n e = ap (λ k. nat_lt 0 k) (omega arith) ∙ e

some_counted : (us : List (Item × ℕ)) → nat_lt 0 (malformed_count us + 0) ≡ some_malformed us
some_counted [] = refl
some_counted (u ∷ us) =
    ap (λ k. nat_lt 0 (k + 0)) (sum_by-cons (λ (v : Item × ℕ). cond (is_malformed v.0) 1 0) u us)
    ∙ some_by (is_malformed u.0) (some_malformed us) (malformed_count us) (some_counted us)

module _ (before after : DecoderStanding) (src written : List ℕ) (read : ℕ) (replaced : Bool)
    (call : Replaces utf_8 true before after src read written replaced) (all : read ≡ length src)
    (held : after.place.held ≡ []) (owes_before : before.owes ≡ false)
    (owes : after.owes ≡ false) where
  all_units : to_come before.place src ≡ call.decoded
  all_units =
      let rest : drop read src ++ [] ≡ [] = append-nil (drop read src)
      ∙ nil_from_length (drop read src) (omega (arith, length-drop read src, all)) in
      ap (λ (l : List ℕ). to_come before.place l) (sym (append-nil src))
      ∙ (call.equation [] (record { bytes = All-nil (λ b. b < 256); none = λ e. refl })
      ∙ (ap (λ (l : List (Item × ℕ)). call.decoded ++ l)
      (no_units after.place (drop read src ++ []) rest held) ∙ append-nil call.decoded))

  -- what was written is the text of the stream
  pub all_text : written ≡ text (to_come before.place src)
  all_text =
      sym (ap text all_units
      ∙ (ap (λ (l : List ℕ). l ++ text call.decoded) (sym (none_owed before owes_before))
      ∙ (call.text ∙ (ap (λ (l : List ℕ). written ++ l) (none_owed after owes)
      ∙ append-nil written))))

  -- U+FFFD was written exactly where a unit is malformed
  pub all_malformed : replaced ≡ some_malformed (to_come before.place src)
  all_malformed =
      call.some_replaced
      ∙ (ap (λ (t : Bool). nat_lt (if t then 1 else 0)
      (malformed_count call.decoded + owed_count before)) owes
      ∙ (ap (λ (t : Bool). nat_lt 0 (malformed_count call.decoded + (if t then 1 else 0)))
      owes_before
      ∙ (some_counted call.decoded ∙ ap some_malformed (sym all_units))))

-- what was written behind the front of a buffer, where the buffer is then cut
pub cut_behind : (start n size : ℕ) (dst part rest : List ℕ) → start ≤ length dst → n ≤ length part → start + n ≤ size
    → take (start + n) (take size (put_mid start (length dst - start) dst part ++ rest)) ≡ take start dst ++ take n part
cut_behind start n size dst part rest within fits kept =
    let room = length dst - start in
    let new = put_mid start room dst part in
    let after = post_of start room dst in
    let long : start + n ≤ length new = omega (arith, length-append (take start dst) (part ++ after), length-append part after, length-take-le start dst within) in
    take-take (start + n) size (new ++ rest) kept ∙ take-append-le (start + n) new rest long ∙ written_more start n dst part within fits

-- the front of a buffer that was made longer
pub front_kept : (size : ℕ) (old dst more : List ℕ) → dst ≡ take size old ++ more → length old ≤ size → take (length old) dst ≡ old
front_kept size old dst more is longer =
    ap (take (length old)) (is ∙ ap (λ (l : List ℕ). l ++ more) (take_all size old longer)) ∙ take_at old more (length old) refl
