use Rattle.std.proofs.Common.{refl, ◌∙◌, arith}
use Rattle.std.specs.Char.Escape.{encode_utf16}
use Rattle.enc_handles.specs.Unaligned.{units_in}
use Rattle.enc_handles.proofs.BlockLemmas.{moves_nothing, moves_on}
use Rattle.enc_handles.proofs.blocks.move_utf16.Goals as goal

pub loop-read-init : goal.loop-read-init
loop-read-init g c =
    let window = units_in g.E.Endian.OPPOSITE_ENDIAN c.args.units.now in (
      omega arith,
      c.requires.from,
      refl,
      moves_nothing encode_utf16 0 window c.args.dst.now c.args.at c.args.from _ c.requires.at c.requires.from (omega arith),
    )

pub loop-read-preserved : goal.loop-read-preserved
loop-read-preserved g c =
    let window = units_in g.E.Endian.OPPOSITE_ENDIAN c.args.units.now in
    let so_far = c.loop-read.invariant in
    let moved = c.in-Some.ensures.moved in (
      omega (arith, so_far.0),
      omega (arith, c.loop-read-test.true, c.len.ensures g.E.Endian.OPPOSITE_ENDIAN),
      moved.text.same_length ∙ so_far.2,
      moves_on encode_utf16 0 window c.args.dst.now c.loop-read.dst c.utf16_block.new.dst c.block.result c.args.at c.args.from c.loop-read.read c.loop-read.end c.in-Some.behind
          so_far.0 (omega (arith, c.loop-read-test.true, c.len.ensures g.E.Endian.OPPOSITE_ENDIAN)) so_far.3 c.block.ensures moved,
    )
