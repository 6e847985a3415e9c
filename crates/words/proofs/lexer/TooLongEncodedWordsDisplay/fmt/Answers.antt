use Rattle.std.proofs.Common.{length, string_bytes, refl, ap, ◌∙◌, arith}
use Rattle.std.proofs.lemmas.List.{take_rest, length-drop}
use Rattle.std.proofs.Output.{has_written_append, has_written_of_eq}
use Rattle.words.proofs.Texts.{all-joined}
use Rattle.words.proofs.lexer.TooLongEncodedWordsDisplay.fmt.Goals as goal

pub returns-after-loop-word-clause-writes : goal.returns-after-loop-word-clause-writes
returns-after-loop-word-clause-writes g c = λ p _.
    let first = c.in_ok-write_str-in-len1-up.ensures.writes p refl in
    has_written_of_eq _ _ _ _ _
    (all-joined c.as_slice.result.now c.args.self.now.0.items c.deref.result.now c.first-item.result c.loop-word.word-index
    c.as_slice.ensures.value c.in-len1-up.len_at_least (c.deref.ensures ∙ ap string_bytes c.first-item.is) (omega (arith, ap length (take_rest c.as_slice.result.now 1), length-drop 1 c.as_slice.result.now)))
    (has_written_append _ _ _ _ _ _ first (c.loop-word.invariant first.plain))
