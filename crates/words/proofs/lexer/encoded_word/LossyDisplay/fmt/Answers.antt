use Rattle.std.proofs.Common.{◌++◌, ◌==◌, cond, List, [], ℕ, length, refl, sym, ap, ◌∙◌, append_assoc}
use Rattle.std.proofs.Output.{has_written_append, has_written_of_eq}
use Rattle.std.proofs.lemmas.List.{append-nil}
use Rattle.std.proofs.lemmas.Str.{utf8_lossy_empty}
use Rattle.std.specs.Str.Chunks.{utf8_chunks_rest}
use Rattle.std.specs.Str.Lossy.{utf8_lossy, replacement_bytes}
use Rattle.words.proofs.Texts.{lossy-chunk}
use Rattle.words.proofs.lexer.encoded_word.LossyDisplay.fmt.Goals as goal

pub loop-chunk-preserved : goal.loop-chunk-preserved
loop-chunk-preserved g c = λ p.
    let i = c.loop-chunk.invariant p in
    let steps = c.in-Some.ensures.steps in
    let text = lossy-chunk _ _ _ _ steps.0 steps.3.0 steps.3.1 steps.2 in
    let valid : List ℕ = c.valid.result.now in
    let malformed : List ℕ = c.replacement.result.now in
    let later : List ℕ = utf8_lossy (utf8_chunks_rest c.next.new.self) in
    let front = c.valid.ensures in
    let behind = c.replacement.ensures ∙ ap (λ z. cond (length z == 0) [] replacement_bytes) c.invalid.ensures in
    let first = has_written_append _ _ _ _ _ _ i.1 (c.in_ok-write_str.ensures.writes i.1.plain refl) in (
      (i.0 ++ valid) ++ malformed,
      has_written_append _ _ _ _ _ _ first (c.in_ok-write_str-2.ensures.writes first.plain refl),
      append_assoc (i.0 ++ valid) malformed later ∙ (append_assoc i.0 valid (malformed ++ later) ∙
          ((λ k. i.0 ++ (front k ++ (behind k ++ later))) ∙ (ap (λ z. i.0 ++ z) (sym text) ∙ i.2))),
    )

pub returns-clause-writes : goal.returns-clause-writes
returns-clause-writes g c = λ p _.
    let i = c.loop-chunk.invariant p in
    let none = utf8_lossy_empty _ c.in-None.ensures.steps.0 in
    has_written_of_eq _ _ _ _ _ (sym (append-nil i.0) ∙ (ap (λ z. i.0 ++ z) (sym none) ∙ i.2)) i.1
