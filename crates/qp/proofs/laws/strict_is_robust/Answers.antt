use Rattle.std.proofs.Common.{◌≡◌, ℕ, Option, Some, None, Ok, List}
use Rattle.qp.specs.declared.QuotedPrintableError.{QuotedPrintableError}
use Rattle.qp.specs.Robust.{robust}
use Rattle.qp.specs.Strict.{strict, strict_fault, unless_fault}
use Rattle.qp.proofs.laws.strict_is_robust.Goals as goal

value-unless_fault : (fault : Option QuotedPrintableError) (v w : List ℕ) → unless_fault fault v ≡ Ok w → v ≡ w
value-unless_fault None v w h = cc
value-unless_fault (Some e) v w h = cc

pub returns : goal.returns
unfolding strict
returns c = λ limit input value is. value-unless_fault (strict_fault limit input) (robust input) value is
