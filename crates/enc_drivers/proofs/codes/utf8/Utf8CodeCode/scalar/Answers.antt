use Rattle.std.proofs.Common.{sym, ap, ◌∙◌, arith}
use Rattle.enc_handles.specs.Utf8.{sequence_scalar}
use Rattle.enc_drivers.specs.Units.{scalar_at}
use Rattle.enc_drivers.proofs.Utf8Steps.{sequence_front}
use Rattle.enc_drivers.proofs.codes.utf8.Utf8CodeCode.scalar.Goals as goal

pub returns : goal.returns
returns c = λ mode more are.
    sequence_front mode c.args.bytes.now more (omega arith)
    ∙ (ap (λ n. scalar_at mode (sequence_scalar c.args.bytes.now) n) (sym c.sequence_len-length.ensures.value)
    ∙ ap (λ s. scalar_at mode s c.sequence_len-length.result) (sym c.sequence_char.ensures))
