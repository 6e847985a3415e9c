use Rattle.std.proofs.Common.{◌≡◌, true, false, Some, None, refl, sym}
use Rattle.enc_front.specs.Encoding.{label}
use Rattle.enc_front.specs.Indexes.{indexes_of, known}
use Rattle.enc_front.specs.Charset.{charset}
use Rattle.enc_front.proofs.charset.Charset.for_label.Goals as goal

pub returns-in_err-encoding-clause-encoding : goal.returns-in_err-encoding-clause-encoding
unfolding charset
returns-in_err-encoding-clause-encoding c =
    let none : label c.args.label.now ≡ None = sym c.in_err-encoding.ensures in
    rw (c.from_residual.ensures, none) refl

pub returns-then-has-clause-encoding : goal.returns-then-has-clause-encoding
unfolding charset
returns-then-has-clause-encoding c =
    let some : label c.args.label.now
    ≡ Some c.in_ok-encoding.encoding = sym c.in_ok-encoding.ensures in
    let is_known : known c.in_ok-encoding.encoding (indexes_of c.args.tables.now) ≡ true = cc in
    rw (some, is_known) refl

pub returns-else-has-clause-encoding : goal.returns-else-has-clause-encoding
unfolding charset
returns-else-has-clause-encoding c =
    let some : label c.args.label.now
    ≡ Some c.in_ok-encoding.encoding = sym c.in_ok-encoding.ensures in
    let unknown : known c.in_ok-encoding.encoding (indexes_of c.args.tables.now) ≡ false = cc in
    rw (some, unknown) refl
