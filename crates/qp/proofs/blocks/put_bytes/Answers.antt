use Rattle.std.proofs.Common.{◌≡◌, ◌+◌, ◌++◌, take, sym, ap, ◌∙◌, arith}
use Rattle.std.proofs.lemmas.List.{length-take-le}
use lib.Lanes.{put_chunk}
use Rattle.qp.proofs.LaneLemmas.{stored_run}
use Rattle.qp.proofs.BlockLemmas.{front_written, spread_plain}
use Rattle.qp.proofs.blocks.put_bytes.Goals as goal

pub returns-then-size-len-clause-written : goal.returns-then-size-len-clause-written
returns-then-size-len-clause-written c =
    let text = c.args.text.now in
    let long = length-take-le c.args.len text (omega (arith, c.requires.len, c.requires.text)) in
    let place : c.args.at + c.args.size ≡ c.args.at + c.args.len = omega arith in
    ap (λ n. take n (put_chunk c.args.at c.args.room.now (take 16 text))) place
    ∙ stored_run 16 c.args.room.now text c.args.at c.args.len (omega (arith, c.requires.room)) c.requires.text c.requires.len
    ∙ ap (λ t. take c.args.at c.args.room.now ++ t) (sym (spread_plain (take c.args.len text) (omega (arith, long, c.requires.size))))

pub returns-clause-written : goal.returns-clause-written
returns-clause-written c = front_written c.args.room.now c.put_spread.new.room c.args.text.now c.args.at c.args.len c.args.size (omega (arith, c.requires.room)) c.requires.len c.requires.size c.put_spread.ensures.written
