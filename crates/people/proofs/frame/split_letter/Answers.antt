use Rattle.std.proofs.Common.{ap, sym, ◌∙◌}
use Rattle.std.specs.Option.{option_map}
use Rattle.people.specs.Slices.{letter_cut_of}
use Rattle.people.proofs.FrameLemmas.{letter-empty, letter-alone, letter-found, letter-other}
use Rattle.people.proofs.frame.split_letter.Goals as goal

pub returns-in_err-letter : goal.returns-in_err-letter
returns-in_err-letter c = ap (option_map letter_cut_of) c.from_residual.ensures ∙ sym (letter-empty c.args.bytes.now c.in_err-letter.ensures.cases)

pub returns-in_err-mark : goal.returns-in_err-mark
returns-in_err-mark c =
    ap (option_map letter_cut_of) c.from_residual-in_err-mark.ensures ∙ sym (letter-alone c.args.bytes.now c.in_ok-letter.behind.now c.in_ok-letter.letter.now c.in_ok-letter.ensures.cases.0 c.in_err-mark.ensures.cases)

pub returns-then-is_frame_letter : goal.returns-then-is_frame_letter
returns-then-is_frame_letter c =
    sym (letter-found c.args.bytes.now c.in_ok-letter.behind.now c.in_ok-mark.rest.now c.in_ok-letter.letter.now c.in_ok-mark.mark.now c.in_ok-letter.ensures.cases.0 c.in_ok-mark.ensures.cases.0 (sym c.if-is_frame_letter.ensures))

pub returns-else-is_frame_letter : goal.returns-else-is_frame_letter
returns-else-is_frame_letter c =
    sym (letter-other c.args.bytes.now c.in_ok-letter.behind.now c.in_ok-mark.rest.now c.in_ok-letter.letter.now c.in_ok-mark.mark.now c.in_ok-letter.ensures.cases.0 c.in_ok-mark.ensures.cases.0 (sym c.if-is_frame_letter.ensures))
