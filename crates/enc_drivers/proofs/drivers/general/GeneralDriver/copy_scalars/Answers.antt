use Rattle.std.proofs.Common.{◌<◌, ◌≤◌, ◌+◌, length, drop, refl, rules, arith, length-drop}
use Rattle.std.proofs.lemmas.List.{take_rest}
use Rattle.std.proofs.lemmas.List.Elements.{All-from_get_or, All-drop}
use Rattle.enc_drivers.specs.Units.{AreBytes}
use Rattle.enc_drivers.specs.declared.unit.Mode.{Mode}
use Rattle.enc_drivers.proofs.Runs.{scalar_found, scalar_moved}
use Rattle.enc_drivers.proofs.Turns.{goes_nothing, goes_more}
use Rattle.enc_drivers.proofs.drivers.general.GeneralDriver.copy_scalars.Goals as goal

pub loop-read-init : goal.loop-read-init
loop-read-init g c = (omega arith, λ last mode. goes_nothing _ _ last _ _ _)

pub overflow_add-read : goal.overflow_add-read
overflow_add-read g c =
    let are : AreBytes c.args.src.now = All-from_get_or (λ b. b < 256) c.args.src.now 0 (λ i h. omega (arith, c.type_inv.src i)) in
    let rest = take_rest c.args.src.now c.loop-read.read in
    let found = scalar_found (g.C.Code.unit c.args.self.now.code) (g.met.C.Code.laws c.args.self.now.code) (drop c.loop-read.read c.args.src.now) c.in-Some.scalar c.in-Some.length
    (All-drop (λ b. b < 256) c.loop-read.read c.args.src.now are) (omega (arith, length-drop c.loop-read.read c.args.src.now, c.loop-read-test.true)) (rw rest at c.in-Some.ensures) Mode.Plain in
    let within : c.loop-read.read + c.in-Some.length ≤ length c.args.src.now = omega (arith, found.within, length-drop c.loop-read.read c.args.src.now) in
    search rules

pub loop-read-smaller : goal.loop-read-smaller
loop-read-smaller g c =
    let are : AreBytes c.args.src.now = All-from_get_or (λ b. b < 256) c.args.src.now 0 (λ i h. omega (arith, c.type_inv.src i)) in
    let rest = take_rest c.args.src.now c.loop-read.read in
    let found = scalar_found (g.C.Code.unit c.args.self.now.code) (g.met.C.Code.laws c.args.self.now.code) (drop c.loop-read.read c.args.src.now) c.in-Some.scalar c.in-Some.length
    (All-drop (λ b. b < 256) c.loop-read.read c.args.src.now are) (omega (arith, length-drop c.loop-read.read c.args.src.now, c.loop-read-test.true)) (rw rest at c.in-Some.ensures) Mode.Plain in
    omega (arith, found.within, found.some, length-drop c.loop-read.read c.args.src.now)

pub loop-read-preserved : goal.loop-read-preserved
loop-read-preserved g c =
    let are : AreBytes c.args.src.now = All-from_get_or (λ b. b < 256) c.args.src.now 0 (λ i h. omega (arith, c.type_inv.src i)) in
    let laws = g.met.C.Code.laws c.args.self.now.code in
    let xs = drop c.loop-read.read c.args.src.now in
    let rest = take_rest c.args.src.now c.loop-read.read in
    let some : 0 < length xs = omega (arith, length-drop c.loop-read.read c.args.src.now, c.loop-read-test.true) in
    let begins = rw rest at c.in-Some.ensures in
    let bytes = All-drop (λ b. b < 256) c.loop-read.read c.args.src.now are in
    let found = scalar_found _ laws xs c.in-Some.scalar c.in-Some.length bytes some begins Mode.Plain in (
      omega (arith, found.within, length-drop c.loop-read.read c.args.src.now),
      λ last mode. goes_more _ _ _ _ _ _ _ _ _ _ _ _ _ (c.loop-read.invariant.1 last mode)
          (scalar_moved _ laws xs c.in-Some.scalar c.in-Some.length bytes some begins g.S.UnitSlice.encode last mode _ _
          (c.if-not-write_item.ensures.written refl) (c.if-not-write_item.ensures.fits refl)),
    )
