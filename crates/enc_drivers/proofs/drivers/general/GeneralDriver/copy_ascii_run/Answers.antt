use Rattle.std.proofs.Common.{◌<◌, arith}
use Rattle.std.proofs.lemmas.List.Elements.{All-from_get_or}
use Rattle.enc_handles.proofs.AsciiLemmas.{moved_len_le}
use Rattle.enc_handles.specs.Destination.{writing}
use Rattle.enc_drivers.specs.Units.{AreBytes}
use Rattle.enc_drivers.proofs.Runs.{copied_ascii}
use Rattle.enc_drivers.proofs.Turns.{goes_nothing}
use Rattle.enc_drivers.proofs.drivers.general.GeneralDriver.copy_ascii_run.Goals as goal

pub returns-then-is_empty-clause-goes : goal.returns-then-is_empty-clause-goes
returns-then-is_empty-clause-goes g c = λ last mode. goes_nothing _ _ last _ _ _

pub returns-clause-within : goal.returns-clause-within
returns-clause-within g c = omega (arith, c.copy_ascii.ensures.count, moved_len_le c.args.src.now (writing c.args.dest.now).free)

pub returns-clause-goes : goal.returns-clause-goes
returns-clause-goes g c =
    let are : AreBytes c.args.src.now = All-from_get_or (λ b. b < 256) c.args.src.now 0 (λ i h. omega (arith, c.type_inv.src i)) in
    λ last mode. copied_ascii _ _ last mode _ _ _ _ (g.met.C.Code.laws c.args.self.now.code) c.requires g.met.S.UnitSlice.ascii_text are c.copy_ascii.ensures.count c.copy_ascii.ensures.text
