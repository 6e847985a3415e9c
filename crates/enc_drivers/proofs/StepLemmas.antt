-- What an answer of `step` has to show.
use Rattle.std.proofs.Common.{◌≡◌, ℕ, Bool, true, false, cond, List, ◌++◌, refl, sym, ap, subst, ◌∙◌}
use Rattle.std.proofs.lemmas.List.{append-nil}
use Rattle.enc_drivers.specs.declared.unit.Item.TheVariants.{Malformed}
use Rattle.enc_drivers.specs.declared.unit.Mode.{Mode}
use Rattle.enc_drivers.specs.declared.code.Step.{Step}
use Rattle.enc_drivers.specs.declared.code.Step.TheVariants as step
use Rattle.enc_drivers.specs.Steps.{IsUndecided, Steps}
use Rattle.enc_drivers.specs.Units.{Code, UnitAt, AreBytes, malformed_at}

-- a unit that stands at the front whatever follows
pub decided_step : (unit : Code) (mode : Mode) (front : List ℕ) (last : Bool) (r : Step) (u : UnitAt) → r ≡ step.Unit u.item u.len u.next
    → ((more : List ℕ) → AreBytes more → unit mode (front ++ more) ≡ u) → Steps unit mode front last r
decided_step unit mode front last r u is decided = subst (λ s. Steps unit mode front last s) (sym is) (λ more follows. decided more follows.bytes)

-- bytes that are malformed at the end, and undecided before it
pub cut_step : (unit : Code) (mode : Mode) (front : List ℕ) (last : Bool) (r : Step) (n : ℕ) → r ≡ cond last (step.Unit Malformed n mode) step.More
    → unit mode front ≡ malformed_at mode n → IsUndecided unit mode front → Steps unit mode front last r
cut_step unit mode front true r n is at_end undecided =
    subst (λ s. Steps unit mode front true s) (sym is)
    (λ more follows. ap (unit mode) (ap (λ m. front ++ m) (follows.none refl) ∙ append-nil front) ∙ at_end)
cut_step unit mode front false r n is at_end undecided = subst (λ s. Steps unit mode front false s) (sym is) (refl, undecided)
