use Rattle.std.proofs.Common.{ap, ◌∙◌}
use Rattle.std.specs.Prelude.{not}
use Rattle.unwrap.proofs.Asking.{no_encoding, no_limit, reader_is}
use Rattle.unwrap.proofs.command_line.options.ReaderOptions.given.Goals as goal

pub returns-in_err-encoding : goal.returns-in_err-encoding
returns-in_err-encoding c = c.from_residual.ensures ∙ no_encoding _ _ c.in_err-encoding.ensures

pub returns-in_err-limit : goal.returns-in_err-limit
returns-in_err-limit c = c.from_residual-in_err-limit.ensures ∙ no_limit _ _ _ c.in_ok-encoding.ensures c.in_err-limit.ensures.number

pub returns : goal.returns
returns c =
    reader_is _ _ _ _ _ _ _ _ c.in_ok-encoding.ensures c.in_ok-limit.ensures.number c.flag_given.ensures c.flag_given-2.ensures c.flag_given-3.ensures
    (ap not c.flag_given-4.ensures)
