use Rattle.std.proofs.Common.{◌≡◌, ℕ, ◌+◌, ◌-◌, Bool, true, cond, ◌&&◌, ◌||◌, nat_lt, nat_le, ◌++◌, List, length, take, drop, sym, ap, ap₂, ◌∙◌, subst, arith}
use Rattle.std.proofs.lemmas.List.{take_rest}
use Rattle.qp.specs.Blocks.{spread}
use Rattle.qp.specs.Items.{items, keeps_breaks, begins_break}
use Rattle.qp.specs.Layout.{laid_out_from}
use Rattle.qp.proofs.BlockLemmas.{size_few, block_new, block-fits, drop_more}
use Rattle.qp.proofs.blocks.put_block.Goals as goal

pub overflow_add-at : goal.overflow_add-at
overflow_add-at c =
    let size = c.spread_len-size.ensures c.args.input.now (omega (arith, c.requires.some, c.within_len-len.ensures.few)) c.escape_mask-mask.ensures in
    let small = size_few c.args.input.now c.within_len-len.result c.spread_len-size.result c.within_len-len.ensures.few (omega (arith, c.requires.some)) size in
    grind arith

pub put-requires : goal.put-requires
put-requires c =
    let size = c.spread_len-size.ensures c.args.input.now (omega (arith, c.requires.some, c.within_len-len.ensures.few)) c.escape_mask-mask.ensures in
    let small = size_few c.args.input.now c.within_len-len.result c.spread_len-size.result c.within_len-len.ensures.few (omega (arith, c.requires.some)) size in
    omega (arith, small, c.requires.room, c.put_bytes.ensures.len)

pub returns-clause-end : goal.returns-clause-end
returns-clause-end c =
    let size = c.spread_len-size.ensures c.args.input.now (omega (arith, c.requires.some, c.within_len-len.ensures.few)) c.escape_mask-mask.ensures in
    let small = size_few c.args.input.now c.within_len-len.result c.spread_len-size.result c.within_len-len.ensures.few (omega (arith, c.requires.some)) size in
    omega (arith, small, c.break_len-skip.ensures.few)

pub returns-clause-value : goal.returns-clause-value
returns-clause-value c = λ mode kept.
    let input : List ℕ = c.args.input.now in
    let len : ℕ = c.within_len-len.result in
    let skip : ℕ = c.break_len-skip.result in
    let hard : Bool = c.args.text && c.breaks_at.result in
    let left : ℕ = c.args.limit - c.args.used in
    let size = c.spread_len-size.ensures c.args.input.now (omega (arith, c.requires.some, c.within_len-len.ensures.few)) c.escape_mask-mask.ensures in
    let small = size_few c.args.input.now c.within_len-len.result c.spread_len-size.result c.within_len-len.ensures.few (omega (arith, c.requires.some)) size in
    let here : (keeps_breaks mode && begins_break (drop len input)) ≡ hard = ap₂ (λ a b. a && b) kept (sym c.breaks_at.ensures) in
    let room : (nat_lt c.spread_len-size.result left || (hard && nat_le c.spread_len-size.result left)) ≡ true = sym c.if-not-fits.ensures in
    let w = c.put_bytes.ensures.written in
    let new = block_new hard c.put_bytes.new.room c.put.new.room _ (c.args.at + c.spread_len-size.result) skip c.put.result (omega (arith, c.requires.room, small, c.put_bytes.ensures.len)) c.break_len-skip.ensures.value c.put.ensures.end c.put.ensures.written w in
    let line : c.column.result ≡ cond hard 0 (c.args.used + length (spread (take len input))) = c.column.ensures ∙ ap (λ n. cond hard 0 (c.args.used + n)) size in
    let rest : take (length input - (len + skip)) (drop (len + skip) input) ≡ drop (cond hard 2 0) (drop len input) =
    take_rest input (len + skip) ∙ sym (drop_more len skip input) ∙ ap (λ n. drop n (drop len input)) c.break_len-skip.ensures.value in
    ap₂ (λ n r. take (c.args.at + c.spread_len-size.result + skip) c.put.new.room ++ laid_out_from c.args.limit n (items mode r)) line rest
    ∙ block-fits mode c.args.limit c.args.used len hard (take c.args.at c.args.room.now) _ input c.requires.used (omega (arith, c.requires.some, c.within_len-len.ensures.few)) c.within_len-len.ensures.within here
    (subst (λ n. (nat_lt n left || (hard && nat_le n left)) ≡ true) size room) new
