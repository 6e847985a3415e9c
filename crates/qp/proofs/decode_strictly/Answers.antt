use Rattle.std.proofs.Common.{◌≡◌, Ok, Err, sym, ap}
use Rattle.qp.specs.Strict.{strict}
use Rattle.qp.proofs.decode_strictly.Goals as goal

pub returns-in-Some-clause-quoted : goal.returns-in-Some-clause-quoted
unfolding strict
returns-in-Some-clause-quoted c = λ fault is.
    let same : c.in-Some.fault ≡ fault = cc in
    rw (sym c.in-Some.ensures) (ap Err same)

pub returns-in_ok-bytes-in-None-clause-strict : goal.returns-in_ok-bytes-in-None-clause-strict
unfolding strict
returns-in_ok-bytes-in-None-clause-strict c = rw (sym c.in-None.ensures) (ap Ok (sym c.in_ok-bytes-in-None.ensures))
