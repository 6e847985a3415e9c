use Rattle.std.proofs.Common.{ap, ◌∙◌}
use Rattle.std.specs.Option.{option_map}
use Rattle.unwrap.specs.Asked.{quoted_view}
use Rattle.unwrap.proofs.Asking.{no_line, no_quoted_limit, quoted_is}
use Rattle.unwrap.proofs.command_line.options.QuotedOptions.given.Goals as goal

pub returns-in_err-line : goal.returns-in_err-line
returns-in_err-line c = ap (option_map quoted_view) c.from_residual.ensures ∙ no_line _ _ c.in_err-line.ensures.number

pub returns-in_err-limit : goal.returns-in_err-limit
returns-in_err-limit c = ap (option_map quoted_view) c.from_residual-in_err-limit.ensures ∙ no_quoted_limit _ _ _ c.in_ok-line.ensures.number c.in_err-limit.ensures.number

pub returns : goal.returns
returns c = quoted_is _ _ _ _ _ c.in_ok-line.ensures.number c.in_ok-limit.ensures.number c.flag_given.ensures
