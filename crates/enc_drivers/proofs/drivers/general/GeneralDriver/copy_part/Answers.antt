use Rattle.std.proofs.Common.{◌+◌}
use Rattle.std.proofs.lemmas.List.{take_rest}
use Rattle.enc_drivers.proofs.Turns.{goes_more}
use Rattle.enc_drivers.proofs.drivers.general.GeneralDriver.copy_part.Goals as goal

pub returns-clause-goes : goal.returns-clause-goes
returns-clause-goes g c =
    let src = c.args.src.now in
    let ascii = c.copy_ascii_run-ascii.result in
    let blocks = rw (take_rest src ascii) at c.copy_blocks.ensures.goes in
    let entries = rw (take_rest src (ascii + c.copy_blocks.result)) at c.copy_entries.ensures.goes in
    let scalars = rw (take_rest src (ascii + c.copy_blocks.result + c.copy_entries.result)) at c.copy_scalars.ensures.goes in
    λ last mode. goes_more _ _ _ _ _ _ _ _ _ _ _ _ _
    (goes_more _ _ _ _ _ _ _ _ _ _ _ _ _
    (goes_more _ _ _ _ _ _ _ _ _ _ _ _ _ (c.copy_ascii_run-ascii.ensures.goes last mode) (blocks last mode))
    (entries last mode))
    (scalars last mode)
