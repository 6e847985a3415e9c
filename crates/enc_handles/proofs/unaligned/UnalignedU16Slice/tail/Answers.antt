use Rattle.std.proofs.Common.{◌*◌, false, arith}
use Rattle.std.proofs.lemmas.List.{take_rest}
use Rattle.enc_handles.proofs.CodeUnits.{length-window, drop-window}
use Rattle.enc_handles.proofs.unaligned.UnalignedU16Slice.tail.Goals as goal

pub returns : goal.returns
returns c = λ big.
    let s = c.args.self.now in
    rw (take_rest s.bytes.now (2 * c.args.from))
    (drop-window big s.bytes.now s.len c.args.from s.fits (omega (arith, c.requires, length-window false s.bytes.now s.len s.fits)))
