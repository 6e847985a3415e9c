use Rattle.std.proofs.Common.{◌<◌, ◌≤◌, length, drop, refl, arith, length-drop}
use Rattle.std.proofs.lemmas.List.{take_rest}
use Rattle.std.proofs.lemmas.List.Elements.{All-from_get_or, All-drop}
use Rattle.enc_drivers.specs.Units.{AreBytes}
use Rattle.enc_drivers.proofs.Runs.{block_moved}
use Rattle.enc_drivers.proofs.Turns.{goes_nothing, goes_more}
use Rattle.enc_drivers.proofs.drivers.general.GeneralDriver.copy_blocks.Goals as goal

pub loop-read-init : goal.loop-read-init
loop-read-init g c = (omega arith, λ last mode. goes_nothing _ _ last _ _ _)

pub loop-read-preserved : goal.loop-read-preserved
loop-read-preserved g c =
    let are : AreBytes c.args.src.now = All-from_get_or (λ b. b < 256) c.args.src.now 0 (λ i h. omega (arith, c.type_inv.src i)) in
    let xs = drop c.loop-read.read c.args.src.now in
    let rest = take_rest c.args.src.now c.loop-read.read in
    let long : 8 ≤ length xs = omega (arith, length-drop c.loop-read.read c.args.src.now, c.loop-read-test.true) in
    let bytes = All-drop (λ b. b < 256) c.loop-read.read c.args.src.now are in
    let told = rw rest at c.in-Some.ensures in
    let writes = c.if-not-write_entries.ensures.written refl told.scalars told.entries in (
      omega (arith, c.loop-read-test.true),
      λ last mode. goes_more _ _ _ _ _ _ _ _ _ _ _ _ _ (c.loop-read.invariant.1 last mode)
          (block_moved _ g.S.UnitSlice.encode last mode xs told.scalars _ _ (g.met.C.Code.laws c.args.self.now.code) bytes long told.reads writes.0 writes.1),
    )

pub returns-then-src-lt8-clause-goes : goal.returns-then-src-lt8-clause-goes
returns-then-src-lt8-clause-goes g c = λ last mode. goes_nothing _ _ last _ _ _
