use Rattle.std.proofs.Common.{sym, ap, ◌∙◌}
use Rattle.qp.specs.Items.{ends_blank}
use Rattle.qp.proofs.ItemLemmas.{ends_blank-push}
use Rattle.qp.proofs.encoder.ends_blank.Goals as goal

pub returns-in-Some : goal.returns-in-Some
returns-in-Some c =
    c.is_blank.ensures ∙ sym (ap ends_blank c.in-Some.ensures.cases.0 ∙ ends_blank-push c.in-Some.field-0-1.now c.in-Some.last.now)
