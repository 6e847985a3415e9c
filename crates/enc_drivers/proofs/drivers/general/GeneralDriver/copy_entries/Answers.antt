use Rattle.std.proofs.Common.{◌<◌, ◌≤◌, ◌+◌, length, drop, refl, rules, arith, length-drop}
use Rattle.std.proofs.lemmas.List.{take_rest}
use Rattle.std.proofs.lemmas.List.Elements.{All-from_get_or, All-drop}
use Rattle.enc_drivers.specs.Units.{AreBytes}
use Rattle.enc_drivers.specs.declared.unit.Mode.{Mode}
use Rattle.enc_drivers.proofs.Runs.{scalar_found, scalar_moved}
use Rattle.enc_drivers.proofs.Turns.{goes_nothing, goes_more}
use Rattle.enc_drivers.proofs.drivers.general.GeneralDriver.copy_entries.Goals as goal

pub loop-read-init : goal.loop-read-init
loop-read-init g c = (omega arith, λ last mode. goes_nothing _ _ last _ _ _)

pub overflow_add-read : goal.overflow_add-read
overflow_add-read g c =
    let are : AreBytes c.args.src.now = All-from_get_or (λ b. b < 256) c.args.src.now 0 (λ i h. omega (arith, c.type_inv.src i)) in
    let laws = g.met.C.Code.laws c.args.self.now.code in
    let xs = drop c.loop-read.read c.args.src.now in
    let rest = take_rest c.args.src.now c.loop-read.read in
    let some : 0 < length xs = omega (arith, length-drop c.loop-read.read c.args.src.now, c.loop-read-test.true) in
    let bytes = All-drop (λ b. b < 256) c.loop-read.read c.args.src.now are in
    let told = (rw rest at c.entry_at-entry.ensures) (omega (arith, c.if-entry-eq0.false)) in
    let found = scalar_found _ laws xs told.code c.entry_at-entry.result.1 bytes some told.begins Mode.Plain in
    let within : c.loop-read.read + c.entry_at-entry.result.1 ≤ length c.args.src.now = omega (arith, found.within, length-drop c.loop-read.read c.args.src.now) in
    search rules

pub loop-read-smaller : goal.loop-read-smaller
loop-read-smaller g c =
    let are : AreBytes c.args.src.now = All-from_get_or (λ b. b < 256) c.args.src.now 0 (λ i h. omega (arith, c.type_inv.src i)) in
    let laws = g.met.C.Code.laws c.args.self.now.code in
    let xs = drop c.loop-read.read c.args.src.now in
    let rest = take_rest c.args.src.now c.loop-read.read in
    let some : 0 < length xs = omega (arith, length-drop c.loop-read.read c.args.src.now, c.loop-read-test.true) in
    let bytes = All-drop (λ b. b < 256) c.loop-read.read c.args.src.now are in
    let told = (rw rest at c.entry_at-entry.ensures) (omega (arith, c.if-entry-eq0.false)) in
    let found = scalar_found _ laws xs told.code c.entry_at-entry.result.1 bytes some told.begins Mode.Plain in
    omega (arith, found.within, found.some, length-drop c.loop-read.read c.args.src.now)

pub loop-read-preserved : goal.loop-read-preserved
loop-read-preserved g c =
    let are : AreBytes c.args.src.now = All-from_get_or (λ b. b < 256) c.args.src.now 0 (λ i h. omega (arith, c.type_inv.src i)) in
    let laws = g.met.C.Code.laws c.args.self.now.code in
    let xs = drop c.loop-read.read c.args.src.now in
    let rest = take_rest c.args.src.now c.loop-read.read in
    let some : 0 < length xs = omega (arith, length-drop c.loop-read.read c.args.src.now, c.loop-read-test.true) in
    let bytes = All-drop (λ b. b < 256) c.loop-read.read c.args.src.now are in
    let told = (rw rest at c.entry_at-entry.ensures) (omega (arith, c.if-entry-eq0.false)) in
    let found = scalar_found _ laws xs told.code c.entry_at-entry.result.1 bytes some told.begins Mode.Plain in
    let writes = c.if-not-write_entry.ensures.written refl told.code told.small told.entry in (
      omega (arith, found.within, length-drop c.loop-read.read c.args.src.now),
      λ last mode. goes_more _ _ _ _ _ _ _ _ _ _ _ _ _ (c.loop-read.invariant.1 last mode)
          (scalar_moved _ laws xs told.code c.entry_at-entry.result.1 bytes some told.begins g.S.UnitSlice.encode last mode _ _ writes.0 writes.1),
    )

pub returns-then-src-lt2-clause-goes : goal.returns-then-src-lt2-clause-goes
returns-then-src-lt2-clause-goes g c = λ last mode. goes_nothing _ _ last _ _ _
