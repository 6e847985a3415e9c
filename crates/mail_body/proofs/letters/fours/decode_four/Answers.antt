use Rattle.std.proofs.Common.{◌+◌, arith}
use Rattle.mail_body.proofs.LetterTable.{IsValue-below}
use Rattle.mail_body.proofs.FourLemmas.{AreBelow-or, Goes-four}
use Rattle.mail_body.proofs.letters.fours.decode_four.Goals as goal

pub overflow_mul-out : goal.overflow_mul-out
overflow_mul-out c =
    let small = AreBelow-or c.value_at-a.result c.value_at-b.result c.value_at-c.result c.value_at-d.result 64 c.if-a-b-ge-LETTERS.false in
    omega arith

pub overflow_add-out : goal.overflow_add-out
overflow_add-out c =
    let small = AreBelow-or c.value_at-a.result c.value_at-b.result c.value_at-c.result c.value_at-d.result 64 c.if-a-b-ge-LETTERS.false in
    omega arith

pub overflow_add-out-2 : goal.overflow_add-out-2
overflow_add-out-2 c =
    let small = AreBelow-or c.value_at-a.result c.value_at-b.result c.value_at-c.result c.value_at-d.result 64 c.if-a-b-ge-LETTERS.false in
    omega arith

pub overflow_add-out-4 : goal.overflow_add-out-4
overflow_add-out-4 c =
    let small = AreBelow-or c.value_at-a.result c.value_at-b.result c.value_at-c.result c.value_at-d.result 64 c.if-a-b-ge-LETTERS.false in
    omega arith

pub returns-clause-goes : goal.returns-clause-goes
returns-clause-goes c done =
    let small = AreBelow-or c.value_at-a.result c.value_at-b.result c.value_at-c.result c.value_at-d.result 64 c.if-a-b-ge-LETTERS.false in
    Goes-four c.args.piece.now c.args.out.now c.args.at c.args.filled c.value_at-a.result c.value_at-b.result c.value_at-c.result c.value_at-d.result
    c.requires.in_piece c.requires.in_out
    (IsValue-below _ c.value_at-a.result (c.type_inv.piece c.args.at).fits c.value_at-a.ensures small.first)
    (IsValue-below _ c.value_at-b.result (c.type_inv.piece (c.args.at + 1)).fits c.value_at-b.ensures small.second)
    (IsValue-below _ c.value_at-c.result (c.type_inv.piece (c.args.at + 2)).fits c.value_at-c.ensures small.third)
    (IsValue-below _ c.value_at-d.result (c.type_inv.piece (c.args.at + 3)).fits c.value_at-d.ensures small.fourth)
