use Rattle.std.proofs.Common.{ap, take, ◌∙◌, arith, length-take}
use Rattle.std.specs.Str.Lossy.{utf8_valid_len}
use Rattle.enc_handles.proofs.AsciiLemmas.{run_len-is, ascii_len_le}
use Rattle.enc_handles.proofs.Fronts.{ascii-utf8, front-window}
use Rattle.enc_handles.proofs.utf8_parts.copy_utf8.Goals as goal

pub copy_parts-requires-clause-within : goal.copy_parts-requires-clause-within
copy_parts-requires-clause-within c =
    let window = take c.min.result c.args.src.now in
    let count = c.ascii_to_ascii-ascii.ensures.count in
    omega (arith, run_len-is window, ascii_len_le window)

pub copy_parts-requires-clause-whole : goal.copy_parts-requires-clause-whole
copy_parts-requires-clause-whole c =
    let window = take c.min.result c.args.src.now in
    let count = c.ascii_to_ascii-ascii.ensures.count in
    ascii-utf8 window c.ascii_to_ascii-ascii.result (omega (arith, run_len-is window))

pub returns-clause-whole : goal.returns-clause-whole
returns-clause-whole c = front-window c.args.src.now c.min.result _ c.copy_parts.ensures.longest

pub returns-clause-longest : goal.returns-clause-longest
returns-clause-longest c = c.copy_parts.ensures.longest ∙ ap (λ n. utf8_valid_len (take n c.args.src.now)) c.min.ensures

pub returns-clause-within : goal.returns-clause-within
returns-clause-within c = omega (arith, c.copy_parts.ensures.within, length-take c.min.result c.args.src.now)

pub returns-clause-fits : goal.returns-clause-fits
returns-clause-fits c = omega (arith, c.copy_parts.ensures.within, c.min.ensures, length-take c.min.result c.args.src.now)
