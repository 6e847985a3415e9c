use Rattle.std.proofs.Common.{Ok, Err, sym, subst, ap}
use Rattle.enc_io.specs.ReaderView.{standing_of}
use Rattle.unwrap.specs.declared.status.ReadError.{ReadError}
use Rattle.unwrap.specs.HeaderErrors.{copy_error}
use Rattle.unwrap.specs.Unwraps.{ReadsStream}
use Rattle.unwrap.proofs.Unwrapping.{at_source, read_all_text, read_stopped}
use Rattle.unwrap.proofs.collected.read_text.Goals as goal

pub returns-in-Ok : goal.returns-in-Ok
returns-in-Ok g c =
    λ o i room left faults calls is.
    at_source o i left _ _ faults _ _ (Ok c.copy_text-copied.new.out.bytes) (ap g.S.Source.left c.into_inner-source.ensures) (ap g.S.Source.faults c.into_inner-source.ensures)
    (read_all_text o i room left faults calls (standing_of c.args.reader) (standing_of c.copy_text-copied.new.reader) _ c.copy_text-copied.new.out.bytes c.in-Ok.field-0 is c.new.ensures.items c.in-Ok.ensures.copies)

pub returns-in-Err : goal.returns-in-Err
returns-in-Err g c =
    λ o i room left faults calls is.
    subst (λ (e : ReadError). ReadsStream o i left (g.S.Source.left c.into_inner-source.result) faults (g.S.Source.faults c.into_inner-source.result) (Err e)) (sym c.from.ensures)
    (at_source o i left _ _ faults _ _ (Err (copy_error c.in-Err.fault)) (ap g.S.Source.left c.into_inner-source.ensures) (ap g.S.Source.faults c.into_inner-source.ensures)
    (read_stopped o i room left _ _ faults calls (standing_of c.args.reader) (standing_of c.copy_text-copied.new.reader) _ c.in-Err.fault is c.in-Err.ensures.copies))
