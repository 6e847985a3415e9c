use Rattle.std.proofs.Common.{ℕ, ◌+◌, ◌-◌, ◌++◌, ◌<◌, List, ◌∷◌, take, drop, length, sym, ◌∙◌, ap, arith, slice_index}
use Rattle.std.proofs.lemmas.List.{take_rest}
use Rattle.people.specs.QText.{q_octets}
use Rattle.people.proofs.Bytes.{none-before, none-at-all, cut-at}
use Rattle.people.proofs.QLemmas.{is_special, q-run, q-end}
use Rattle.people.proofs.q_text.split_octet.Goals as goal

pub returns-in_err-end-clause-none : goal.returns-in_err-end-clause-none
returns-in_err-end-clause-none c =
    rw c.from_residual.ensures (q-end c.args.text.now (none-at-all is_special c.args.text.now c.in_err-end.ensures))

pub returns-clause-some : goal.returns-clause-some
returns-clause-some c =
    let s : List ℕ = c.args.text.now in
    let m : ℕ = c.in_ok-end.end in
    let f = c.in_ok-end.ensures in
    let high : m < length s = f.0.high in
    let b : ℕ = slice_index s m in
    let behind : List ℕ = take (length s - (m + 1)) (drop (m + 1) s) in
    let octet : ℕ = c.octet_at-octet.result.0 in
    let len : ℕ = c.octet_at-octet.result.1 in
    ap q_octets (cut-at s m high)
    ∙ q-run (take m s) (b ∷ drop (m + 1) s) (none-before is_special s m (omega arith) f.0.before)
    ∙ ap (λ z. take m s ++ q_octets (b ∷ z)) (sym (take_rest s (m + 1)))
    ∙ ap (λ z. take m s ++ z) (c.octet_at-octet.ensures.octet ∙ ap (λ z. octet ∷ q_octets z) (sym (take_rest behind len)))
