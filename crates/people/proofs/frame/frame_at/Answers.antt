use Rattle.std.proofs.Common.{◌≡◌, ◌++◌, ℕ, List, Option, Some, length, drop, ap, sym, ◌∙◌, arith, length-append}
use Rattle.std.specs.Option.{option_map}
use Rattle.people.specs.declared.frame.FrameSlices.{FrameSlices}
use Rattle.people.specs.Frame.{Frame, Cut, frame_spelling, behind_start}
use Rattle.people.specs.Slices.{sliced_frame}
use Rattle.people.proofs.FrameLemmas.{none-start, none-charset, none-letter, none-text, frame-found, frame-spells, start-found, start-missing, spelling-cut, behind-cut}
use Rattle.people.proofs.frame.frame_at.Goals as goal

abbrev seen_frame : List ℕ → FrameSlices → Frame × List ℕ
seen_frame s f = (sliced_frame f, drop (length f.spelling.now) s)

pub returns-in_err-inside-clause-value : goal.returns-in_err-inside-clause-value
returns-in_err-inside-clause-value c =
    ap (option_map (seen_frame c.args.bytes.now)) c.from_residual.ensures ∙ sym (none-start c.args.bytes.now (start-missing c.args.bytes.now c.in_err-inside.ensures.cases))

pub returns-in_err-charset-clause-value : goal.returns-in_err-charset-clause-value
returns-in_err-charset-clause-value c =
    let s : List ℕ = c.args.bytes.now in
    let i : List ℕ = c.in_ok-inside.inside.now in
    let begun : behind_start s ≡ Some i = start-found s i c.in_ok-inside.ensures.cases.0 c.in_ok-inside.ensures.cases.1 in
    ap (option_map (seen_frame s)) c.from_residual-in_err-charset.ensures ∙ sym (none-charset s i begun (sym c.in_err-charset.ensures))

pub returns-in_err-letter-clause-value : goal.returns-in_err-letter-clause-value
returns-in_err-letter-clause-value c =
    let s : List ℕ = c.args.bytes.now in
    let i : List ℕ = c.in_ok-inside.inside.now in
    let begun : behind_start s ≡ Some i = start-found s i c.in_ok-inside.ensures.cases.0 c.in_ok-inside.ensures.cases.1 in
    let charset : Cut = (c.in_ok-charset.charset.now, c.in_ok-charset.rest.now) in
    ap (option_map (seen_frame s)) c.from_residual-in_err-letter.ensures ∙ sym (none-letter s i begun charset (sym c.in_ok-charset.ensures) (sym c.in_err-letter.ensures))

pub returns-in_err-text-clause-value : goal.returns-in_err-text-clause-value
returns-in_err-text-clause-value c =
    let s : List ℕ = c.args.bytes.now in
    let i : List ℕ = c.in_ok-inside.inside.now in
    let begun : behind_start s ≡ Some i = start-found s i c.in_ok-inside.ensures.cases.0 c.in_ok-inside.ensures.cases.1 in
    let charset : Cut = (c.in_ok-charset.charset.now, c.in_ok-charset.rest.now) in
    let letter : ℕ × List ℕ = (c.in_ok-letter.letter, c.in_ok-letter.rest.now) in
    ap (option_map (seen_frame s)) c.from_residual-in_err-text.ensures ∙ sym (none-text s i begun charset (sym c.in_ok-charset.ensures) letter (sym c.in_ok-letter.ensures) (sym c.in_err-text.ensures))

pub slice_bounds-spelling-count : goal.slice_bounds-spelling-count
slice_bounds-spelling-count c =
    let s : List ℕ = c.args.bytes.now in
    let i : List ℕ = c.in_ok-inside.inside.now in
    let begun : behind_start s ≡ Some i = start-found s i c.in_ok-inside.ensures.cases.0 c.in_ok-inside.ensures.cases.1 in
    let charset : Cut = (c.in_ok-charset.charset.now, c.in_ok-charset.rest.now) in
    let letter : ℕ × List ℕ = (c.in_ok-letter.letter, c.in_ok-letter.rest.now) in
    let text : Cut = (c.in_ok-text.text.now, c.in_ok-text.after.now) in
    let f : Frame = record { charset = charset.0; letter = letter.0; text = text.0 } in
    let spelled : s ≡ frame_spelling f ++ text.1 = frame-spells s i begun charset (sym c.in_ok-charset.ensures) letter (sym c.in_ok-letter.ensures) text (sym c.in_ok-text.ensures) in
    omega (arith, ap length spelled, length-append (frame_spelling f) text.1)

pub returns-clause-value : goal.returns-clause-value
returns-clause-value c =
    let s : List ℕ = c.args.bytes.now in
    let i : List ℕ = c.in_ok-inside.inside.now in
    let begun : behind_start s ≡ Some i = start-found s i c.in_ok-inside.ensures.cases.0 c.in_ok-inside.ensures.cases.1 in
    let charset : Cut = (c.in_ok-charset.charset.now, c.in_ok-charset.rest.now) in
    let letter : ℕ × List ℕ = (c.in_ok-letter.letter, c.in_ok-letter.rest.now) in
    let text : Cut = (c.in_ok-text.text.now, c.in_ok-text.after.now) in
    let f : Frame = record { charset = charset.0; letter = letter.0; text = text.0 } in
    let spelled : s ≡ frame_spelling f ++ text.1 = frame-spells s i begun charset (sym c.in_ok-charset.ensures) letter (sym c.in_ok-letter.ensures) text (sym c.in_ok-text.ensures) in
    let found : List ℕ → Option (Frame × List ℕ) = λ z. Some (f, z) in
    ap found (behind-cut s (frame_spelling f) text.1 spelled)
    ∙ sym (frame-found s i begun charset (sym c.in_ok-charset.ensures) letter (sym c.in_ok-letter.ensures) text (sym c.in_ok-text.ensures))

pub returns-clause-spelled : goal.returns-clause-spelled
returns-clause-spelled c =
    let s : List ℕ = c.args.bytes.now in
    let i : List ℕ = c.in_ok-inside.inside.now in
    let begun : behind_start s ≡ Some i = start-found s i c.in_ok-inside.ensures.cases.0 c.in_ok-inside.ensures.cases.1 in
    let charset : Cut = (c.in_ok-charset.charset.now, c.in_ok-charset.rest.now) in
    let letter : ℕ × List ℕ = (c.in_ok-letter.letter, c.in_ok-letter.rest.now) in
    let text : Cut = (c.in_ok-text.text.now, c.in_ok-text.after.now) in
    let f : Frame = record { charset = charset.0; letter = letter.0; text = text.0 } in
    let spelled : s ≡ frame_spelling f ++ text.1 = frame-spells s i begun charset (sym c.in_ok-charset.ensures) letter (sym c.in_ok-letter.ensures) text (sym c.in_ok-text.ensures) in
    spelling-cut s (frame_spelling f) text.1 spelled
