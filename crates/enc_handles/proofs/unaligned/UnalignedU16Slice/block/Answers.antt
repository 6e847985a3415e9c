use Rattle.std.proofs.Common.{◌≡◌, true, false, ap, ◌∙◌, take, drop, arith}
use Rattle.enc_handles.specs.Utf16.{code_units}
use Rattle.enc_handles.proofs.CodeUnits.{length-window, block-within}
use Rattle.enc_handles.proofs.unaligned.UnalignedU16Slice.block.Goals as goal

pub big_block-requires : goal.big_block-requires
big_block-requires g c =
    let s = c.args.self.now in
    omega (arith, c.requires, length-window g.E.Endian.OPPOSITE_ENDIAN s.bytes.now s.len s.fits, s.fits)

pub simd_at-requires : goal.simd_at-requires
simd_at-requires g c =
    let s = c.args.self.now in
    omega (arith, c.requires, length-window g.E.Endian.OPPOSITE_ENDIAN s.bytes.now s.len s.fits, length-window false s.bytes.now s.len s.fits)

pub returns-then-OPPOSITE_ENDIAN : goal.returns-then-OPPOSITE_ENDIAN
returns-then-OPPOSITE_ENDIAN g c =
    let s = c.args.self.now in
    let big = g.E.Endian.OPPOSITE_ENDIAN in
    let is : true ≡ big = cc in
    block-within (code_units big s.bytes.now) c.big_block.result s.len c.args.i (omega (arith, c.requires, length-window big s.bytes.now s.len s.fits))
    (c.big_block.ensures ∙ ap (λ b. take 8 (drop c.args.i (code_units b s.bytes.now))) is)

pub returns : goal.returns
returns g c =
    let s = c.args.self.now in
    let big = g.E.Endian.OPPOSITE_ENDIAN in
    let is : false ≡ big = cc in
    c.simd_at.ensures ∙ ap (λ b. take 8 (drop c.args.i (take s.len (code_units b s.bytes.now)))) is
