-- Calls of a driver and of a decoder, over plain values.
use Rattle.std.proofs.Common.{◌≡◌, ℕ, zero, suc, ◌+◌, ◌-◌, ◌*◌, ◌<◌, ◌≤◌, Bool, false, List, []}
use Rattle.std.proofs.Common.{◌∷◌, ◌++◌, length, take, drop, refl, ap, sym, ◌∙◌, arith}
use Rattle.std.proofs.Common.{append_assoc, length-append, length-drop}
use Rattle.std.specs.List.{All, sum_by}
use Rattle.std.proofs.Math.Seq.{drop-append_seam, take-append_seam}
use Rattle.std.proofs.lemmas.List.{append-nil, length-take-le, drop-drop}
use Rattle.std.proofs.lemmas.Grind.{flat_map-append}
use Rattle.std.proofs.lemmas.List.Elements.{All-nil, All-cons, All-head, All-tail, All-append}
use Rattle.std.proofs.lemmas.List.Elements.{All-take, All-drop}
use Rattle.std.proofs.lemmas.List.Sums.{sum_by-cons}
use Rattle.enc_handles.specs.declared.results.DecoderResult.{DecoderResult}
use Rattle.enc_handles.specs.declared.results.DecoderResult.TheVariants as result
use Rattle.enc_drivers.specs.declared.unit.Item.{Item}
use Rattle.enc_drivers.specs.declared.unit.Item.TheVariants as item
use Rattle.enc_drivers.specs.declared.unit.Mode.{Mode}
use Rattle.enc_drivers.specs.Resume.{Standing, Resumes, ResumesWriting, item_in, text_in}
use Rattle.enc_drivers.specs.Resume.{malformed_of, unit_bytes}
use Rattle.enc_drivers.specs.Units.{Code, IsCode, AreBytes, units}
use Rattle.enc_drivers.proofs.CallLemmas.{short_call_law}
use Rattle.enc_drivers.proofs.UnitLemmas.{units_nil, units_some}
use Rattle.enc_front.specs.declared.encoding.Encoding.{Encoding}
use Rattle.enc_front.specs.declared.mark.Start.{Start}
use Rattle.enc_front.specs.declared.mark.Start.TheVariants.{Over}
use Rattle.enc_front.specs.DecoderSteps.{with_more}
use Rattle.enc_front.specs.DecoderCalls.{DecoderResumes, DecoderResumesWriting}
use Rattle.enc_front.specs.Indexes.{Indexes}
use Rattle.enc_front.specs.DecoderView.{held_at, mode_at}
use Rattle.enc_front.specs.Start.{marks_at}
use Rattle.enc_front.specs.Decoder.{DecoderPlace, no_mark, past_mark, to_come, encoding_to_come}
use Rattle.enc_front.specs.Output.{Output, form_of}
use Rattle.enc_front.specs.Units.{unit}
use Rattle.enc_front.proofs.OutputLemmas.{text_in_output, text_as_short}

-- a unit has some byte
abbrev HasByte : Item × ℕ → Type 0
HasByte u = 1 ≤ u.1

module _ (code : Code) (law : IsCode code) where
  some_within : (n : ℕ) (mode : Mode) (bytes : List ℕ) → AreBytes bytes → length bytes ≤ n
      → All HasByte (units code mode bytes)
  some_within n mode [] are h = rw (units_nil code mode) (All-nil HasByte)
  some_within zero mode (x ∷ bytes) are h = absurd (omega arith)
  some_within (suc n) mode (x ∷ bytes) are h =
      let u = code mode (x ∷ bytes) in
      let each = law.each mode (x ∷ bytes) are (omega arith) in
      let gone : length (drop u.len (x ∷ bytes))
      ≡ length (x ∷ bytes) - u.len = length-drop u.len (x ∷ bytes) in
      let rest = some_within n u.next (drop u.len (x ∷ bytes))
      (All-drop (λ b. b < 256) u.len (x ∷ bytes) are) (omega (arith, each.some)) in
      rw (units_some code law mode (x ∷ bytes) are (omega arith))
      (All-cons HasByte (u.item, u.len) (units code u.next (drop u.len (x ∷ bytes))) each.some rest)

sum_some : (us : List (Item × ℕ)) → All HasByte us → length us ≤ sum_by (λ (u : Item × ℕ). u.1) us
sum_some [] each = omega arith
sum_some (u ∷ us) each =
    let here : 1 ≤ u.1 = All-head HasByte u us each in
    let rest = sum_some us (All-tail HasByte u us each) in
    rw (sum_by-cons (λ (v : Item × ℕ). v.1) u us) (omega arith)

module _ (code : Code) (last : Bool) (a b : Standing) (src : List ℕ) (n : ℕ) (are : AreBytes a.held)
    (are_src : AreBytes src) (within : n ≤ length src) where
  -- what a driver holds are bytes
  pub bytes_held : (decoded malformed : List (Item × ℕ))
      → Resumes code last a b src n decoded malformed → AreBytes b.held
  bytes_held decoded malformed call =
      let used : AreBytes (a.held ++ take n src) = All-append (λ x. x < 256) a.held (take n src) are
      (All-take (λ x. x < 256) n src are_src) in
      rw (← drop-append_seam call.gone b.held)
      (All-drop (λ x. x < 256) (length call.gone) (call.gone ++ b.held) (rw call.held at used))

  -- a driver holds no more than it held and read
  pub length_held : (decoded malformed : List (Item × ℕ))
      → Resumes code last a b src n decoded malformed → length b.held ≤ length a.held + n
  length_held decoded malformed call =
      omega (
        arith,
        ap length call.held,
        length-append a.held (take n src),
        length-append call.gone b.held,
        length-take-le n src within,
      )

  -- a malformed unit and what is held behind it are no more than was held and read
  pub bytes_behind : {form : ℕ → List ℕ} {written : List ℕ} {malformed : List (Item × ℕ)}
      → IsCode code → ResumesWriting code form last a b src n written malformed
      → unit_bytes malformed + length b.held ≤ length a.held + n
  bytes_behind law call =
      omega (
        arith,
        short_call_law code law last a b src n call.decoded _ are are_src within
            call.resumes,
      )

  -- a driver writes at most three elements for each byte that it uses up
  pub short_written : (output : Output) → IsCode code
      → (written : List ℕ) (malformed : List (Item × ℕ))
      → ResumesWriting code (form_of output) last a b src n written malformed
      → length written + 3 * (length malformed + length b.held) ≤ 3 * (length a.held + n)
  short_written output law written malformed call =
      let short = short_call_law code law last a b src n call.decoded malformed are are_src within
      call.resumes in
      let same = ap length (call.text ∙ text_in_output output call.decoded) in
      let fewer = text_as_short output call.decoded in
      let are_end : AreBytes [] = All-nil (λ x. x < 256) in
      let whole = a.held ++ (src ++ []) in
      let rest = units code b.mode (b.held ++ (drop n src ++ [])) in
      let are_whole : AreBytes whole = All-append (λ x. x < 256) a.held (src ++ []) are
      (All-append (λ x. x < 256) src [] are_src are_end) in
      let all : units code a.mode whole
      ≡ call.decoded ++ (malformed ++ rest) =
      call.resumes.equation [] (record { bytes = are_end; none = λ e. refl }) in
      let each : All HasByte (call.decoded ++ (malformed ++ rest)) =
      rw all at (some_within code law (length whole) a.mode whole are_whole (omega arith)) in
      let later : All HasByte (malformed ++ rest) =
      rw (← drop-append_seam call.decoded (malformed ++ rest))
      (All-drop HasByte (length call.decoded) (call.decoded ++ (malformed ++ rest)) each) in
      let wrong : All HasByte malformed = rw (← take-append_seam malformed rest)
      (All-take HasByte (length malformed) (malformed ++ rest) later) in
      let some = sum_some malformed wrong in
      omega arith

-- a call of the driver on what has to be read first, in a decoder
replayed : (output : Output) (indexes : Indexes) (encoding : Encoding) (a b : Standing)
    (replay : List ℕ) (n : ℕ) (written : List ℕ) (malformed : List (Item × ℕ))
    → ResumesWriting (unit encoding indexes) (form_of output) false a b replay n written malformed
    → DecoderResumesWriting output false
    (record {
      indexes = indexes;
      encoding = encoding;
      marks = no_mark;
      held = a.held ++ replay;
      mode = a.mode;
    })
    (record {
      indexes = indexes;
      encoding = encoding;
      marks = no_mark;
      held = b.held ++ drop n replay;
      mode = b.mode;
    }) [] 0 written malformed
unfolding past_mark
replayed output indexes encoding a b replay n written malformed call =
    let code = unit encoding indexes in
    record {
      decoded = call.decoded;
      resumes = record {
        well_formed = call.resumes.well_formed;
        equation = λ more follows.
            ap (units code a.mode) (append_assoc a.held replay more)
            ∙ (call.resumes.equation more follows
            ∙ ap (λ (l : List ℕ). call.decoded ++ (malformed ++ units code b.mode l))
            (sym (append_assoc b.held (drop n replay) more)));
        same_encoding = λ more follows. refl;
        same_indexes = refl;
      };
      text = call.text;
    }

-- the same with what a decoder keeps, in its own terms
pub replayed_at : (output : Output) (indexes : Indexes) (encoding : Encoding) (code : Code)
    (start : Start) (a b : Standing) (replay rest : List ℕ) (n : ℕ) (written : List ℕ)
    (malformed told : List (Item × ℕ))
    → start ≡ Over → code ≡ unit encoding indexes → rest ≡ drop n replay → told ≡ malformed
    → ResumesWriting code (form_of output) false a b replay n written malformed
    → DecoderResumesWriting output false
    (record {
      indexes = indexes;
      encoding = encoding;
      marks = marks_at start;
      held = held_at start (a.held ++ replay);
      mode = mode_at start a.mode;
    })
    (record {
      indexes = indexes;
      encoding = encoding;
      marks = marks_at start;
      held = held_at start (b.held ++ rest);
      mode = mode_at start b.mode;
    })
    [] 0 written told
replayed_at output indexes encoding code start a b replay rest n written malformed told over same is
    tells call =
    rw (over, is, tells)
    (replayed output indexes encoding a b replay n written malformed (rw same at call))

pub same_malformed : (tells : DecoderResult) (k : ℕ)
    → malformed_of (with_more tells k) ≡ malformed_of tells
same_malformed result.InputEmpty k = refl
same_malformed result.OutputFull k = refl
same_malformed (result.Malformed n held) k = refl

pub with_more_full : (tells : DecoderResult) (k : ℕ) → with_more tells k ≡ result.OutputFull
    → tells ≡ result.OutputFull
with_more_full result.InputEmpty k e = cc e
with_more_full result.OutputFull k e = refl
with_more_full (result.Malformed n held) k e = cc e

-- held bytes of a driver and of what has to be read first
pub held_length : (start : Start) (a replay : List ℕ) → start ≡ Over
    → length (held_at start (a ++ replay)) ≡ length a + length replay
held_length start a replay over = rw over (length-append a replay)

-- two calls in a row
pub resumes_more : {output : Output} (last : Bool) (a b c : DecoderPlace) (src : List ℕ)
    (n m read : ℕ) (one two whole : List ℕ) (malformed told : List (Item × ℕ))
    → DecoderResumesWriting output last a b src n one []
    → DecoderResumesWriting output last b c (drop n src) m two malformed
    → read ≡ n + m → whole ≡ one ++ two → told ≡ malformed
    → DecoderResumesWriting output last a c src read whole told
resumes_more {output} last a b c src n m read one two whole malformed told first second counts joins
    tells =
    rw (counts, joins, tells) record {
      decoded = first.decoded ++ second.decoded;
      resumes = record {
        well_formed = All-append (λ (u : Item × ℕ). ¬ (u.0 ≡ item.Malformed)) first.decoded
            second.decoded first.resumes.well_formed second.resumes.well_formed;
        equation = λ more follows.
            first.resumes.equation more follows
            ∙ (ap (λ (l : List (Item × ℕ)). first.decoded ++ l)
            (second.resumes.equation more follows)
            ∙ (sym (append_assoc first.decoded second.decoded
            (malformed ++ to_come c (drop m (drop n src) ++ more)))
            ∙ ap (λ (l : List ℕ). (first.decoded ++ second.decoded)
            ++ (malformed ++ to_come c (l ++ more))) (drop-drop m n src)));
        same_encoding = λ more follows.
            first.resumes.same_encoding more follows
            ∙ (second.resumes.same_encoding more follows
            ∙ ap (λ (l : List ℕ). encoding_to_come c (l ++ more)) (drop-drop m n src));
        same_indexes = second.resumes.same_indexes ∙ first.resumes.same_indexes;
      };
      text = ap (λ (l : List ℕ). l ++ two) first.text
          ∙ (ap (λ (l : List ℕ). text_in (form_of output) first.decoded ++ l) second.text
          ∙ sym (flat_map-append (λ (u : Item × ℕ). item_in (form_of output) u.0) first.decoded
          second.decoded));
    }

-- a call that reads nothing, with what is still to be read
pub resumes_before : {output : Output} (last : Bool) (a b : DecoderPlace) (src written : List ℕ)
    (malformed : List (Item × ℕ)) → AreBytes src
    → DecoderResumesWriting output false a b [] 0 written malformed
    → DecoderResumesWriting output last a b src 0 written malformed
resumes_before last a b src written malformed are call = record {
  decoded = call.decoded;
  resumes = record {
    well_formed = call.resumes.well_formed;
    equation = λ more follows. call.resumes.equation (src ++ more)
        (record { bytes = All-append (λ x. x < 256) src more are follows.bytes; none = λ e. cc e });
    same_encoding = λ more follows. call.resumes.same_encoding (src ++ more)
        (record { bytes = All-append (λ x. x < 256) src more are follows.bytes; none = λ e. cc e });
    same_indexes = call.resumes.same_indexes;
  };
  text = call.text;
}

-- a call of the driver where nothing has to be read first, in a decoder
pub converted_at : (output : Output) (indexes : Indexes) (encoding : Encoding) (unit_then : Code)
    (last : Bool) (start : Start) (a b : Standing) (replay src : List ℕ) (n : ℕ) (written : List ℕ)
    (malformed : List (Item × ℕ))
    → start ≡ Over → unit_then ≡ unit encoding indexes → replay ≡ []
    → ResumesWriting unit_then (form_of output) last a b src n written malformed
    → DecoderResumesWriting output last
    (record {
      indexes = indexes;
      encoding = encoding;
      marks = marks_at start;
      held = held_at start (a.held ++ replay);
      mode = mode_at start a.mode;
    })
    (record {
      indexes = indexes;
      encoding = encoding;
      marks = marks_at start;
      held = held_at start (b.held ++ replay);
      mode = mode_at start b.mode;
    })
    src n written malformed
unfolding past_mark
converted_at output indexes encoding unit_then last start a b replay src n written malformed over
    same none before_call =
    let code = unit encoding indexes in
    let call : ResumesWriting code (form_of output) last a b src n written malformed =
    rw same at before_call in
    let before : a.held ++ [] ≡ a.held = append-nil a.held in
    let behind : b.held ++ [] ≡ b.held = append-nil b.held in
    rw (over, none) record {
      decoded = call.decoded;
      resumes = record {
        well_formed = call.resumes.well_formed;
        equation = λ more follows.
            ap (λ (l : List ℕ). units code a.mode (l ++ (src ++ more))) before
            ∙ (call.resumes.equation more follows
            ∙ ap (λ (l : List ℕ). call.decoded
            ++ (malformed ++ units code b.mode (l ++ (drop n src ++ more)))) (sym behind));
        same_encoding = λ more follows. refl;
        same_indexes = refl;
      };
      text = call.text;
    }

pub none_written : {output : Output} (last : Bool) (a b : DecoderPlace) (src : List ℕ) (n : ℕ)
    → DecoderResumes last a b src n [] [] → DecoderResumesWriting output last a b src n [] []
none_written last a b src n call = record { decoded = []; resumes = call; text = refl }

-- nothing was to be read first
pub nothing_replayed : {output : Output} (at : DecoderPlace)
    → DecoderResumesWriting output false at at [] 0 [] []
nothing_replayed at = record {
  decoded = [];
  resumes = record {
    well_formed = All-nil (λ (u : Item × ℕ). ¬ (u.0 ≡ item.Malformed));
    equation = λ more follows. refl;
    same_encoding = λ more follows. refl;
    same_indexes = refl;
  };
  text = refl;
}
