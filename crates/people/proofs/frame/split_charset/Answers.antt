use Rattle.std.proofs.Common.{ℕ, ◌+◌, List, Option, Some, take, ap, sym, ◌∙◌}
use Rattle.std.specs.Option.{option_map}
use Rattle.std.proofs.lemmas.List.{take_rest}
use Rattle.people.specs.Frame.{Cut}
use Rattle.people.specs.Slices.{cut_of}
use Rattle.people.proofs.FrameLemmas.{charset-missing, charset-found, charset-other}
use Rattle.people.proofs.frame.split_charset.Goals as goal

pub returns-in_err-end : goal.returns-in_err-end
returns-in_err-end c = ap (option_map cut_of) c.from_residual.ensures ∙ sym (charset-missing c.args.bytes.now c.in_err-end.ensures)

pub returns-then-is_charset : goal.returns-then-is_charset
returns-then-is_charset c =
    let s : List ℕ = c.args.bytes.now in
    let m : ℕ = c.in_ok-end.end in
    let f = c.in_ok-end.ensures in
    let rest : List ℕ → Option Cut = λ z. Some (take m s, z) in
    ap rest (take_rest s (m + 1)) ∙ sym (charset-found s m f.0.high f.0.before f.1 (sym c.if-is_charset.ensures))

pub returns-else-is_charset : goal.returns-else-is_charset
returns-else-is_charset c =
    let s : List ℕ = c.args.bytes.now in
    let m : ℕ = c.in_ok-end.end in
    let f = c.in_ok-end.ensures in
    sym (charset-other s m f.0.high f.0.before f.1 (sym c.if-is_charset.ensures))
