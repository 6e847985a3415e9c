use Rattle.std.proofs.Common.{◌≡◌, ℕ, List, [], ◌∷◌, eqb, false, sym, ◌∙◌, ap}
use Rattle.std.proofs.lemmas.Bool.{eq-eqb, ne_eqb}
use Rattle.std.proofs.lemmas.List.{nil_from_length}
use Rattle.qp.specs.Line.{parts, ends_soft}
use Rattle.qp.specs.Strict.{first_fault, part_fault}
use Rattle.qp.proofs.Reading.{soft_after_literal, soft_after_escape, parts_at_escape, parts_at_cut, parts_at_soft, parts_nil, ends_soft_soft, ends_soft_nil}
use Rattle.qp.proofs.StrictLemmas.{part-literal, part-escape, part-fault, fault-soft, fault-cut, fault-parts_none}
use Rattle.qp.proofs.strict.scan_parts.Goals as goal

pub loop-byte-preserved-then-byte-ne61 : goal.loop-byte-preserved-then-byte-ne61
loop-byte-preserved-then-byte-ne61 c =
    let text : List ℕ = c.loop-byte.rest.now in
    let rest : List ℕ = c.in-Some.after.now in
    let byte : ℕ = c.in-Some.byte.now in
    let other : eqb byte 61 ≡ false = ne_eqb byte 61 c.if-byte-ne61.true in
    let whole : text ≡ byte ∷ rest = c.in-Some.ensures.cases.0 in
    record {
      soft = c.skip_plain-rest-then-byte-ne61.ensures.soft ∙ soft_after_literal text rest byte other whole ∙ c.loop-byte.invariant.soft;
      fault = c.skip_plain-rest-then-byte-ne61.ensures.fault ∙ sym (part-literal byte text rest whole other) ∙ c.loop-byte.invariant.fault;
    }

-- `=` is the last of the line
pub returns-in_default-split_first-clause-soft : goal.returns-in_default-split_first-clause-soft
returns-in_default-split_first-clause-soft c =
    let after : List ℕ = c.in-Some.after.now in
    let nothing : after ≡ [] = nil_from_length after c.in_default-split_first.ensures.cases in
    let here = parts_at_soft c.loop-byte.rest.now after c.in-Some.byte.now (eq-eqb c.in-Some.byte.now 61 c.if-byte-ne61.false) c.in-Some.ensures.cases.0 nothing in
    sym (ap ends_soft here ∙ ends_soft_soft) ∙ c.loop-byte.invariant.soft

pub returns-in_default-split_first-clause-none : goal.returns-in_default-split_first-clause-none
returns-in_default-split_first-clause-none c =
    let after : List ℕ = c.in-Some.after.now in
    let nothing : after ≡ [] = nil_from_length after c.in_default-split_first.ensures.cases in
    let here = parts_at_soft c.loop-byte.rest.now after c.in-Some.byte.now (eq-eqb c.in-Some.byte.now 61 c.if-byte-ne61.false) c.in-Some.ensures.cases.0 nothing in
    sym c.loop-byte.invariant.fault ∙ ap (first_fault part_fault) here ∙ fault-soft

-- `=` and one octet are the last of the line
pub returns-in_default-split_first-2-clause-fault : goal.returns-in_default-split_first-2-clause-fault
returns-in_default-split_first-2-clause-fault c =
    let after : List ℕ = c.in-Some-split_first.after.now in
    let high : ℕ = c.in-Some-split_first.high.now in
    let nothing : after ≡ [] = nil_from_length after c.in_default-split_first-2.ensures.cases in
    let here = parts_at_cut c.loop-byte.rest.now c.in-Some.after.now after c.in-Some.byte.now high (eq-eqb c.in-Some.byte.now 61 c.if-byte-ne61.false) c.in-Some.ensures.cases.0 c.in-Some-split_first.ensures.cases.0 nothing in
    sym c.loop-byte.invariant.fault ∙ ap (first_fault part_fault) here ∙ fault-cut high

pub returns-in-Some-escape_fault-clause-fault : goal.returns-in-Some-escape_fault-clause-fault
returns-in-Some-escape_fault-clause-fault c =
    let text : List ℕ = c.loop-byte.rest.now in
    let rest : List ℕ = c.in-Some-split_first-2.after.now in
    let high : ℕ = c.in-Some-split_first.high.now in
    let low : ℕ = c.in-Some-split_first-2.low.now in
    let here = parts_at_escape text c.in-Some.after.now c.in-Some-split_first.after.now rest c.in-Some.byte.now high low (eq-eqb c.in-Some.byte.now 61 c.if-byte-ne61.false) c.in-Some.ensures.cases.0 c.in-Some-split_first.ensures.cases.0 c.in-Some-split_first-2.ensures.cases.0 in
    sym c.loop-byte.invariant.fault ∙ part-fault high low text rest c.in-Some-escape_fault.fault here (sym c.in-Some-escape_fault.ensures)

pub loop-byte-preserved : goal.loop-byte-preserved
loop-byte-preserved c =
    let text : List ℕ = c.loop-byte.rest.now in
    let rest : List ℕ = c.in-Some-split_first-2.after.now in
    let high : ℕ = c.in-Some-split_first.high.now in
    let low : ℕ = c.in-Some-split_first-2.low.now in
    let here = parts_at_escape text c.in-Some.after.now c.in-Some-split_first.after.now rest c.in-Some.byte.now high low (eq-eqb c.in-Some.byte.now 61 c.if-byte-ne61.false) c.in-Some.ensures.cases.0 c.in-Some-split_first.ensures.cases.0 c.in-Some-split_first-2.ensures.cases.0 in
    record {
      soft = c.skip_plain-rest-in-None.ensures.soft ∙ soft_after_escape text rest high low here ∙ c.loop-byte.invariant.soft;
      fault = c.skip_plain-rest-in-None.ensures.fault ∙ sym (part-escape high low text rest here (sym c.in-None.ensures)) ∙ c.loop-byte.invariant.fault;
    }

pub returns-clause-soft : goal.returns-clause-soft
returns-clause-soft c =
    let rest : List ℕ = c.loop-byte.rest.now in
    let nothing : rest ≡ [] = nil_from_length rest c.in_default.ensures.cases in
    sym (ap (λ t. ends_soft (parts t)) nothing ∙ ap ends_soft parts_nil ∙ ends_soft_nil) ∙ c.loop-byte.invariant.soft

pub returns-clause-none : goal.returns-clause-none
returns-clause-none c =
    let rest : List ℕ = c.loop-byte.rest.now in
    let nothing : rest ≡ [] = nil_from_length rest c.in_default.ensures.cases in
    sym c.loop-byte.invariant.fault ∙ ap (λ t. first_fault part_fault (parts t)) nothing ∙ fault-parts_none
