use Rattle.std.proofs.Common.{ℕ, List, [], ◌∷◌, ◌++◌, sym, ◌∙◌, ap}
use Rattle.std.proofs.lemmas.Bool.{eq-eqb, ne_eqb}
use Rattle.std.proofs.lemmas.List.{append-nil, append_assoc}
use Rattle.qp.specs.Text.{kept}
use Rattle.qp.specs.Line.{parts, values, ends_soft, line_value, is_soft}
use Rattle.qp.proofs.Reading.{value_after_literal, soft_after_literal, parts_at_escape, value_after_escape, soft_after_escape, parts_at_cut, parts_at_soft, values_cut, values_soft, values-nil, ends_soft_cut, ends_soft_soft, ends_soft_nil, parts_nil}
use Rattle.qp.proofs.robust.push_line.Goals as goal

pub loop-byte-init : goal.loop-byte-init
loop-byte-init c = record { value = c.in_ok-rest.ensures.value ∙ ap (λ t. c.args.decoded.now.items ++ values (parts t)) c.trim_end.ensures; soft = c.in_ok-rest.ensures.soft ∙ ap (λ t. ends_soft (parts t)) c.trim_end.ensures }

pub loop-byte-preserved-then-byte-ne61 : goal.loop-byte-preserved-then-byte-ne61
loop-byte-preserved-then-byte-ne61 c =
    let text : List ℕ = kept c.loop-byte.rest.now in
    let after : List ℕ = kept c.in-Some.after.now in
    let other = ne_eqb c.in-Some.byte 61 c.if-byte-ne61.true in
    record {
      value =
          c.in_ok-rest-2.ensures.value
          ∙ ap (λ out. out ++ values (parts after)) c.in_ok-push.ensures.items
          ∙ value_after_literal c.loop-byte.decoded.items _ text after c.in-Some.byte other c.in-Some.ensures.some c.loop-byte.invariant.value;
      soft =
          c.in_ok-rest-2.ensures.soft
          ∙ soft_after_literal text after c.in-Some.byte other c.in-Some.ensures.some
          ∙ c.loop-byte.invariant.soft;
    }

-- `=` is the last of the line
pub returns-in_default-split_first_kept-clause-value : goal.returns-in_default-split_first_kept-clause-value
unfolding line_value
returns-in_default-split_first_kept-clause-value c =
    let out = c.loop-byte.decoded.items in
    let here = parts_at_soft (kept c.loop-byte.rest.now) _ c.in-Some.byte (eq-eqb _ 61 c.if-byte-ne61.false) c.in-Some.ensures.some c.in_default-split_first_kept.ensures.none in
    sym (append-nil out) ∙ ap (λ w. out ++ w) (sym (ap values here ∙ values_soft)) ∙ c.loop-byte.invariant.value

pub returns-in_default-split_first_kept-clause-soft : goal.returns-in_default-split_first_kept-clause-soft
unfolding is_soft
returns-in_default-split_first_kept-clause-soft c =
    let here = parts_at_soft (kept c.loop-byte.rest.now) _ c.in-Some.byte (eq-eqb _ 61 c.if-byte-ne61.false) c.in-Some.ensures.some c.in_default-split_first_kept.ensures.none in
    sym (ap ends_soft here ∙ ends_soft_soft) ∙ c.loop-byte.invariant.soft

-- `=` and one octet are the last of the line
pub returns-in_default-split_first_kept-2-clause-value : goal.returns-in_default-split_first_kept-2-clause-value
unfolding line_value
returns-in_default-split_first_kept-2-clause-value c =
    let out = c.loop-byte.decoded.items in
    let byte = c.in-Some.byte in
    let high = c.in-Some-split_first_kept.high in
    let here = parts_at_cut (kept c.loop-byte.rest.now) _ _ byte high (eq-eqb _ 61 c.if-byte-ne61.false) c.in-Some.ensures.some c.in-Some-split_first_kept.ensures.some c.in_default-split_first_kept-2.ensures.none in
    let pushed = c.in_ok-push-3.ensures.items ∙ ap (λ w. w ++ high ∷ []) c.in_ok-push-2.ensures.items in
    pushed
    ∙ append_assoc out (byte ∷ []) (high ∷ [])
    ∙ ap (λ b. out ++ b ∷ high ∷ []) c.if-byte-ne61.false
    ∙ ap (λ w. out ++ w) (sym (ap values here ∙ values_cut high))
    ∙ c.loop-byte.invariant.value

pub returns-in_default-split_first_kept-2-clause-soft : goal.returns-in_default-split_first_kept-2-clause-soft
unfolding is_soft
returns-in_default-split_first_kept-2-clause-soft c =
    let high = c.in-Some-split_first_kept.high in
    let here = parts_at_cut (kept c.loop-byte.rest.now) _ _ c.in-Some.byte high (eq-eqb _ 61 c.if-byte-ne61.false) c.in-Some.ensures.some c.in-Some-split_first_kept.ensures.some c.in_default-split_first_kept-2.ensures.none in
    sym (ap ends_soft here ∙ ends_soft_cut high) ∙ c.loop-byte.invariant.soft

pub loop-byte-preserved : goal.loop-byte-preserved
loop-byte-preserved c =
    let text = kept c.loop-byte.rest.now in
    let rest = kept c.in-Some-split_first_kept-2.after.now in
    let high = c.in-Some-split_first_kept.high in
    let low = c.in-Some-split_first_kept-2.low in
    let here = parts_at_escape text _ _ rest c.in-Some.byte high low (eq-eqb _ 61 c.if-byte-ne61.false) c.in-Some.ensures.some c.in-Some-split_first_kept.ensures.some c.in-Some-split_first_kept-2.ensures.some in
    record {
      value =
          c.in_ok-rest-3.ensures.value
          ∙ ap (λ out. out ++ values (parts rest)) c.in_ok-push_escape.ensures
          ∙ value_after_escape c.loop-byte.decoded.items _ text rest high low here c.loop-byte.invariant.value;
      soft = c.in_ok-rest-3.ensures.soft ∙ soft_after_escape text rest high low here ∙ c.loop-byte.invariant.soft;
    }

pub returns-clause-value : goal.returns-clause-value
unfolding line_value
returns-clause-value c =
    let out = c.loop-byte.decoded.items in
    sym (append-nil out) ∙ ap (λ w. out ++ w) (sym (ap (λ t. values (parts t)) c.in_default.ensures.none ∙ ap values parts_nil ∙ values-nil)) ∙ c.loop-byte.invariant.value

pub returns-clause-soft : goal.returns-clause-soft
unfolding is_soft
returns-clause-soft c =
    sym (ap (λ t. ends_soft (parts t)) c.in_default.ensures.none ∙ ap ends_soft parts_nil ∙ ends_soft_nil) ∙ c.loop-byte.invariant.soft
