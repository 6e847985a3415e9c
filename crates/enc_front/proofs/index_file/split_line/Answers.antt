use Rattle.std.proofs.Common.{ℕ, ◌+◌, ◌∷◌, List, take, length, sym, ◌∙◌, ap, arith}
use Rattle.std.proofs.lemmas.List.{take_rest, drop_all}
use Rattle.enc_front.specs.IndexFile.{lines_of}
use Rattle.enc_front.proofs.IndexFileLemmas.{line_cut, line_whole}
use Rattle.enc_front.proofs.index_file.split_line.Goals as goal

pub returns-then-b-eq10-clause-lines : goal.returns-then-b-eq10-clause-lines
returns-then-b-eq10-clause-lines c =
    let text : List ℕ = c.args.text.now in
    let end : ℕ = c.loop-end.end in
    line_cut text end c.loop-end-test.true c.loop-end.invariant c.if-b-eq10.true
    ∙ ap (λ t. take end text ∷ lines_of t) (sym (take_rest text (end + 1)))

pub returns-clause-lines : goal.returns-clause-lines
returns-clause-lines c =
    let text : List ℕ = c.args.text.now in
    line_whole text c.requires (λ k below. c.loop-end.invariant k (omega arith))
    ∙ ap (λ t. text ∷ lines_of t)
    (sym (take_rest text (length text) ∙ drop_all (length text) text (omega arith)))
