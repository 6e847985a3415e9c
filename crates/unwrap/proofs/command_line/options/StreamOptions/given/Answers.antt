use Rattle.std.proofs.Common.{ap, ◌∙◌}
use Rattle.std.specs.Option.{option_map}
use Rattle.unwrap.specs.Asked.{stream_with}
use Rattle.unwrap.proofs.Asking.{no_buffer, no_piece, no_reader, to_files}
use Rattle.unwrap.proofs.command_line.options.StreamOptions.given.Goals as goal

pub returns-in_default : goal.returns-in_default
returns-in_default c = λ _. no_reader _ _ c.in_default.ensures

pub returns-in_default-number_given : goal.returns-in_default-number_given
returns-in_default-number_given c = λ _. no_buffer _ _ c.in-Some.reader c.in-Some.ensures c.in_default-number_given.ensures.number

pub returns-in_default-number_given-2 : goal.returns-in_default-number_given-2
returns-in_default-number_given-2 c =
    λ _. no_piece _ _ c.in-Some.reader c.in-Some-number_given.buffer c.in-Some.ensures c.in-Some-number_given.ensures.number c.in_default-number_given-2.ensures.number

pub returns-in-Err : goal.returns-in-Err
returns-in-Err c =
    λ usage. to_files _ _ c.in-Some.reader c.in-Some-number_given.buffer c.in-Some-number_given-2.piece c.in-Some.ensures c.in-Some-number_given.ensures.number c.in-Some-number_given-2.ensures.number
    ∙ ap (option_map (stream_with c.in-Some.reader c.in-Some-number_given.buffer c.in-Some-number_given-2.piece)) (c.in-Err.ensures usage)

pub returns : goal.returns
returns c =
    to_files _ _ c.in-Some.reader c.in-Some-number_given.buffer c.in-Some-number_given-2.piece c.in-Some.ensures c.in-Some-number_given.ensures.number c.in-Some-number_given-2.ensures.number
    ∙ ap (option_map (stream_with c.in-Some.reader c.in-Some-number_given.buffer c.in-Some-number_given-2.piece)) c.in-Ok.ensures
