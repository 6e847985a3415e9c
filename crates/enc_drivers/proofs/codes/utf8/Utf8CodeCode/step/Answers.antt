use Rattle.std.proofs.Common.{sym, ap, ◌∙◌, inr}
use Rattle.enc_drivers.specs.Units.{malformed_at}
use Rattle.enc_drivers.specs.Codes.Utf8.{utf8_unit}
use Rattle.enc_drivers.proofs.StepLemmas.{decided_step}
use Rattle.enc_drivers.proofs.Utf8Leads.{no_lead, none_alone, one_alone}
use Rattle.enc_drivers.proofs.Utf8Steps.{malformed_front}
use Rattle.enc_drivers.proofs.codes.utf8.Utf8CodeCode.step.Goals as goal

pub returns-then-begins_none : goal.returns-then-begins_none
returns-then-begins_none c =
    let front = c.args.front.now in
    let lead = no_lead front (sym c.begins_none.ensures ∙ c.if-begins_none.true) in
    decided_step utf8_unit c.args.mode front c.args.last c.malformed.result (malformed_at c.args.mode 1) c.malformed.ensures
    (λ more are. malformed_front front c.requires.some (none_alone front lead.1 lead.0) (inr lead.1) c.args.mode more are
    ∙ ap (λ n. malformed_at c.args.mode n) (one_alone front lead.1))
