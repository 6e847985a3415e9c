use Rattle.std.proofs.Common.{◌≡◌, ◌<◌, ℕ, zero, suc, false, arith}
use Rattle.std.specs.Prelude.{◌==◌}
use Rattle.std.proofs.lemmas.List.Elements.{All-from_get_or}
use Rattle.enc_drivers.proofs.FrontSteps.{steps_front}
use Rattle.enc_drivers.proofs.drivers.general.GeneralDriver.step.Goals as goal

some : (n : ℕ) → false ≡ (n == 0) → 0 < n
some zero e = cc e
some (suc n) e = omega arith

pub returns : goal.returns
returns g c =
    steps_front (g.C.Code.unit c.args.self.now.code) c.args.last c.args.self.now.mode c.args.front.now c.step.result (g.met.C.Code.laws c.args.self.now.code)
    (All-from_get_or (λ b. b < 256) c.args.front.now 0 (λ i h. omega (arith, c.type_inv.front i))) (some _ c.if-is_empty.ensures) (omega arith) c.step.ensures
