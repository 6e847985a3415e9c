use Rattle.std.proofs.Common.{Option, ap, sym, ◌∙◌, Some, None, cond}
use Rattle.std.specs.Prelude.{option_and_then}
use Rattle.std.proofs.lemmas.Bool.{cond-true, cond-false}
use Rattle.enc_front.specs.declared.encoding.Encoding.{Encoding}
use Rattle.enc_front.specs.Indexes.{Indexes, indexes_of, known}
use Rattle.people.specs.Names.{people_label, named}
use Rattle.people.proofs.names.named.Goals as goal

abbrev if_known : Indexes → Encoding → Option Encoding
if_known T e = cond (known e T) (Some e) None

pub returns-in_err-encoding-clause-value : goal.returns-in_err-encoding-clause-value
unfolding named
returns-in_err-encoding-clause-value c =
    c.from_residual.ensures ∙ ap (option_and_then (if_known (indexes_of c.args.tables.now))) (c.in_err-encoding.ensures ∙ ap people_label c.without_language.ensures)

pub returns-then-has-clause-value : goal.returns-then-has-clause-value
unfolding named
returns-then-has-clause-value c =
    let T = indexes_of c.args.tables.now in
    let e : Encoding = c.in_ok-encoding.encoding in
    sym (cond-true (known e T) (Some e) None (sym c.if-has.ensures)) ∙ ap (option_and_then (if_known T)) (c.in_ok-encoding.ensures ∙ ap people_label c.without_language.ensures)

pub returns-else-has-clause-value : goal.returns-else-has-clause-value
unfolding named
returns-else-has-clause-value c =
    let T = indexes_of c.args.tables.now in
    let e : Encoding = c.in_ok-encoding.encoding in
    sym (cond-false (known e T) (Some e) None (sym c.if-has.ensures)) ∙ ap (option_and_then (if_known T)) (c.in_ok-encoding.ensures ∙ ap people_label c.without_language.ensures)
