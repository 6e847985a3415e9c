use Rattle.std.proofs.Common.{ℕ, List, drop, get_or}
use Rattle.std.proofs.lemmas.Bool.{eq-eqb}
use Rattle.qp.specs.Text.{kept}
use Rattle.qp.proofs.Reading.{kept_escape, value_of_escape, soft_after_escape}
use Rattle.qp.proofs.Scanning.{Ink}
use Rattle.qp.proofs.Front.{digit-ink, robust-escape_at}
use Rattle.qp.proofs.robust.escaped_octet.Goals as goal

pub returns-clause-value : goal.returns-clause-value
returns-clause-value c =
    let text : List ℕ = c.args.text.now in
    let high : Ink (get_or text 1 0) = digit-ink _ (c.type_inv.text 1).fits c.in_ok-octet.ensures.high in
    let low : Ink (get_or text 2 0) = digit-ink _ (c.type_inv.text 2).fits c.in_ok-octet.ensures.low in
    let here = kept_escape text c.if-text-lt3.false (eq-eqb _ 61 c.if-text-ne61.false) high.text low.text in
    value_of_escape (kept text) (kept (drop 3 text)) _ _ _ here c.in_ok-octet.ensures.value

pub returns-clause-soft : goal.returns-clause-soft
returns-clause-soft c =
    let text : List ℕ = c.args.text.now in
    let high : Ink (get_or text 1 0) = digit-ink _ (c.type_inv.text 1).fits c.in_ok-octet.ensures.high in
    let low : Ink (get_or text 2 0) = digit-ink _ (c.type_inv.text 2).fits c.in_ok-octet.ensures.low in
    let here = kept_escape text c.if-text-lt3.false (eq-eqb _ 61 c.if-text-ne61.false) high.text low.text in
    soft_after_escape (kept text) (kept (drop 3 text)) _ _ here

pub returns-clause-robust : goal.returns-clause-robust
returns-clause-robust c =
    let text : List ℕ = c.args.text.now in
    let high : Ink (get_or text 1 0) = digit-ink _ (c.type_inv.text 1).fits c.in_ok-octet.ensures.high in
    let low : Ink (get_or text 2 0) = digit-ink _ (c.type_inv.text 2).fits c.in_ok-octet.ensures.low in
    robust-escape_at text _ c.if-text-lt3.false (eq-eqb _ 61 c.if-text-ne61.false) high low c.in_ok-octet.ensures.value
