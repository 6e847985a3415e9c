use Rattle.std.proofs.Common.{arith}
use Rattle.enc_io.proofs.PieceLemmas.{decodes_direct, decodes_few}
use Rattle.enc_io.proofs.reader.decode_piece.Goals as goal

pub returns-then-buf-lt4-clause-piece : goal.returns-then-buf-lt4-clause-piece
returns-then-buf-lt4-clause-piece c =
    let call = c.fill-read.ensures in
    let give = c.read-written.ensures in
    decodes_few _ _ _ _ _ _ _ _ _ _ _ call.text call.waits call.short call.input_empty call.output_full call.end
    (omega (arith, give.count, give.len)) (omega (arith, give.count, give.len)) (omega (arith, give.len)) give.given

pub returns-clause-piece : goal.returns-clause-piece
returns-clause-piece c =
    decodes_direct _ _ _ _ _ _ _ _ _ _ _ c.decode_to_utf8-read.ensures c.clear.ensures (omega (arith, c.decode_to_utf8-read.ensures.len))
