use Rattle.std.proofs.Common.{◌-◌, sym, arith}
use Rattle.std.proofs.lemmas.List.{take-take}
use Rattle.enc_handles.specs.Utf16.{code_units}
use Rattle.enc_handles.proofs.CodeUnits.{length-window}
use Rattle.enc_handles.proofs.unaligned.UnalignedU16Slice.trim_last.Goals as goal

pub returns : goal.returns
returns c = λ big.
    let s = c.args.self.now in
    rw (length-window big s.bytes.now s.len s.fits)
    (sym (take-take (s.len - 1) s.len (code_units big s.bytes.now) (omega arith)))
