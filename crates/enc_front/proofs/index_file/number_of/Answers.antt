use Rattle.std.proofs.Common.{length, arith, slice_index}
use Rattle.enc_front.specs.IndexFile.{digit_number}
use Rattle.enc_front.proofs.IndexFileLemmas.{number_below}
use Rattle.enc_front.proofs.index_file.number_of.Goals as goal

pub overflow_mul-number : goal.overflow_mul-number
overflow_mul-number c =
    let below = number_below c.args.base c.loop-b.number
    (digit_number (slice_index c.args.digits.now c.loop-b.b-index)) c.loop-b.b-index
    (length c.args.digits.now) c.loop-b.invariant.below
    (c.requires.digits c.loop-b.b-index c.loop-b-test.true) c.loop-b-test.true
    c.requires.fits in
    omega (arith, below.1)

pub overflow_add-number : goal.overflow_add-number
overflow_add-number c =
    let below = number_below c.args.base c.loop-b.number
    (digit_number (slice_index c.args.digits.now c.loop-b.b-index)) c.loop-b.b-index
    (length c.args.digits.now) c.loop-b.invariant.below
    (c.requires.digits c.loop-b.b-index c.loop-b-test.true) c.loop-b-test.true
    c.requires.fits in
    rw c.digit_number.ensures below.1
