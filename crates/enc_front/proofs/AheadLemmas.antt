-- That the last of the bytes that were read was needed, over plain values.
use Rattle.std.proofs.Common.{◌≡◌, ℕ, ◌+◌, ◌-◌, ◌<◌, ◌≤◌, Bool, List, [], ◌++◌, length, drop, refl}
use Rattle.std.proofs.Common.{◌∙◌, arith, inl, inr}
use Rattle.std.proofs.lemmas.List.{append-nil}
use Rattle.enc_drivers.specs.declared.unit.Mode.{Mode}
use Rattle.enc_drivers.specs.Resume.{Standing, ResumesWriting, NeedsLast, IsOpen, text_in}
use Rattle.enc_drivers.specs.Units.{Code}
use Rattle.enc_front.specs.declared.encoding.Encoding.{Encoding}
use Rattle.enc_front.specs.declared.mark.Start.{Start}
use Rattle.enc_front.specs.declared.mark.Start.TheVariants.{Over}
use Rattle.enc_front.specs.Decoder.{DecoderPlace}
use Rattle.enc_front.specs.DecoderCalls.{DecoderResumesWriting, DecoderNeedsLast, HoldsOpen}
use Rattle.enc_front.specs.DecoderView.{held_at, mode_at}
use Rattle.enc_front.specs.Indexes.{Indexes}
use Rattle.enc_front.specs.Start.{marks_at}
use Rattle.enc_front.specs.Output.{Output, utf_8, form_of}
use Rattle.enc_front.specs.Units.{unit}
use Rattle.enc_front.proofs.CallLemmas.{converted_at, resumes_more}
use Rattle.enc_front.proofs.StartLemmas.{may_hold_start}

-- at the start nothing is held, or a part of a mark
pub open_start : (indexes : Indexes) (encoding : Encoding) (start : Start) (held : List ℕ)
    (mode : Mode) → ¬ (start ≡ Over)
    → HoldsOpen (record {
      indexes = indexes;
      encoding = encoding;
      marks = marks_at start;
      held = held_at start held;
      mode = mode_at start mode;
    })
open_start indexes encoding start held mode ne =
    (may_hold_start indexes encoding _ start held mode ne refl).undecided

-- a driver behind the start
open_at : (indexes : Indexes) (encoding : Encoding) (code : Code) (start : Start) (front : Standing)
    (replay : List ℕ)
    → start ≡ Over → code ≡ unit encoding indexes → replay ≡ [] → IsOpen code front
    → HoldsOpen (record {
      indexes = indexes;
      encoding = encoding;
      marks = marks_at start;
      held = held_at start (front.held ++ replay);
      mode = mode_at start front.mode;
    })
open_at indexes encoding code start front replay over same none (inl nothing) =
    inl (rw (over, none) (append-nil front.held ∙ nothing))
open_at indexes encoding code start front replay over same none (inr depends) =
    inr (inr (rw (over, none, append-nil front.held) record
    { started = refl; undecided = rw same at depends }))

pub needs_at : {indexes : Indexes} {encoding : Encoding} {code : Code} {last : Bool} {start : Start}
    {a : Standing} {replay src : List ℕ} {n count : ℕ}
    → start ≡ Over → code ≡ unit encoding indexes → replay ≡ [] → NeedsLast code last a src n count
    → DecoderNeedsLast last
    (record {
      indexes = indexes;
      encoding = encoding;
      marks = marks_at start;
      held = held_at start (a.held ++ replay);
      mode = mode_at start a.mode;
    }) src n count
needs_at {indexes} {encoding} {code} {last} {start} {a} {replay} {src} {n}
    {count} over same none needs =
    let call : ResumesWriting code (form_of utf_8) last a needs.front src (n - 1)
    (text_in (form_of utf_8) needs.decoded) [] =
    record { decoded = needs.decoded; resumes = needs.resumes; text = refl } in
    let lifted = converted_at utf_8 indexes encoding code last start a needs.front replay src
    (n - 1) (text_in (form_of utf_8) needs.decoded) [] over same none call in
    let held : length (held_at start (needs.front.held ++ replay)) ≡ length needs.front.held =
    rw (over, none) (rw (append-nil needs.front.held) refl) in
    record {
      front = record {
        indexes = indexes;
        encoding = encoding;
        marks = marks_at start;
        held = held_at start (needs.front.held ++ replay);
        mode = mode_at start needs.front.mode;
      };
      decoded = lifted.decoded;
      resumes = lifted.resumes;
      undecided = open_at indexes encoding code start needs.front replay over same none
          needs.undecided;
      covers = omega (arith, held, needs.covers);
    }

-- a call behind another
pub needs_behind : {output : Output} {last : Bool} {a b : DecoderPlace} {src written : List ℕ}
    {n k read count : ℕ}
    → DecoderResumesWriting output last a b src n written [] → 0 < k → read ≡ n + k
    → DecoderNeedsLast last b (drop n src) k count → DecoderNeedsLast last a src read count
needs_behind {output} {last} {a} {b} {src} {written} {n} {k} {read}
    {count} first some counts needs =
    let second : DecoderResumesWriting output last b needs.front (drop n src) (k - 1)
    (text_in (form_of output) needs.decoded) [] =
    record { decoded = needs.decoded; resumes = needs.resumes; text = refl } in
    let whole = resumes_more last a b needs.front src n (k - 1) (read - 1) written
    (text_in (form_of output) needs.decoded) _ [] [] first second
    (omega (arith, some, counts)) refl refl in
    record {
      front = needs.front;
      decoded = whole.decoded;
      resumes = whole.resumes;
      undecided = needs.undecided;
      covers = needs.covers;
    }

-- fewer bytes
pub needs_fewer : {last : Bool} {a : DecoderPlace} {src : List ℕ} {n read count fewer : ℕ}
    → DecoderNeedsLast last a src n count → read ≡ n → fewer ≤ count
    → DecoderNeedsLast last a src read fewer
needs_fewer needs same less =
    rw same record {
      front = needs.front;
      decoded = needs.decoded;
      resumes = needs.resumes;
      undecided = needs.undecided;
      covers = omega (arith, less, needs.covers);
    }
