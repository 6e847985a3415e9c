use Rattle.std.proofs.Common.{◌==◌, take, length, ap, sym, ◌∙◌, arith}
use Rattle.std.proofs.lemmas.List.{take_all}
use Rattle.people.proofs.Bytes.{first-place, no-place}
use Rattle.people.proofs.names.without_language.Goals as goal

pub returns-in-Some : goal.returns-in-Some
returns-in-Some c =
    let s = c.args.field.now in
    let f = c.in-Some.ensures in
    ap (λ n. take n s) (sym (first-place (λ b. b == 42) s c.in-Some.end f.0.high f.0.before f.1))

pub returns-in-None : goal.returns-in-None
returns-in-None c =
    let s = c.args.field.now in
    sym (ap (λ n. take n s) (no-place (λ b. b == 42) s c.in-None.ensures) ∙ take_all (length s) s (omega arith))
