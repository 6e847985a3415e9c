use Rattle.std.proofs.Common.{rules, ◌-◌, length, ap, sym, ◌∙◌, arith, length-take-le}
use Rattle.std.proofs.lemmas.List.{take_all}
use Rattle.header_block.proofs.LineLemmas.{content_cut, content_kept}
use Rattle.header_block.proofs.lines.content_len.Goals as goal

pub returns-then-line-len-eq13-clause-content : goal.returns-then-line-len-eq13-clause-content
returns-then-line-len-eq13-clause-content c = content_cut c.args.line.now (omega arith) (search rules)

pub returns-then-line-len-eq13-clause-len : goal.returns-then-line-len-eq13-clause-len
returns-then-line-len-eq13-clause-len c =
    let line = c.args.line.now in
    sym (length-take-le (length line - 1) line (omega arith)) ∙ ap length (content_cut line (omega arith) (search rules))

pub returns-clause-content : goal.returns-clause-content
returns-clause-content c =
    let line = c.args.line.now in
    take_all (length line) line (omega arith) ∙ content_kept line (λ l e. absurd (search rules))

pub returns-clause-len : goal.returns-clause-len
returns-clause-len c = ap length (content_kept c.args.line.now (λ l e. absurd (search rules)))
