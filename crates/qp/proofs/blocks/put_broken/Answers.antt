use Rattle.std.proofs.Common.{◌≡◌, ℕ, ◌+◌, ◌-◌, [], ◌∷◌, ◌++◌, List, take, refl, ap, ap₂, ◌∙◌, arith}
use Rattle.std.proofs.lemmas.List.{take_rest}
use Rattle.qp.specs.Items.{items}
use Rattle.qp.specs.Layout.{laid_out_from}
use Rattle.qp.proofs.BlockLemmas.{size_few, front_written, block-breaks}
use Rattle.qp.proofs.blocks.put_broken.Goals as goal

pub overflow_add-at : goal.overflow_add-at
overflow_add-at c =
    let size = c.spread_len-size.ensures c.args.input.now (omega (arith, c.requires.some, c.requires.len, c.fitting_len-most.ensures.few)) c.escape_mask-mask.ensures in
    let small = size_few c.args.input.now c.fitting_len-most.result c.spread_len-size.result (omega (arith, c.requires.len, c.fitting_len-most.ensures.few)) (omega (arith, c.requires.some)) size in
    grind arith

pub put-end-requires : goal.put-end-requires
put-end-requires c =
    let size = c.spread_len-size.ensures c.args.input.now (omega (arith, c.requires.some, c.requires.len, c.fitting_len-most.ensures.few)) c.escape_mask-mask.ensures in
    let small = size_few c.args.input.now c.fitting_len-most.result c.spread_len-size.result (omega (arith, c.requires.len, c.fitting_len-most.ensures.few)) (omega (arith, c.requires.some)) size in
    omega (arith, small, c.requires.room, c.put_spread.ensures.len)

pub returns-clause-end : goal.returns-clause-end
returns-clause-end c =
    let size = c.spread_len-size.ensures c.args.input.now (omega (arith, c.requires.some, c.requires.len, c.fitting_len-most.ensures.few)) c.escape_mask-mask.ensures in
    let small = size_few c.args.input.now c.fitting_len-most.result c.spread_len-size.result (omega (arith, c.requires.len, c.fitting_len-most.ensures.few)) (omega (arith, c.requires.some)) size in
    omega (arith, small, c.put-end.ensures.end)

pub returns-clause-value : goal.returns-clause-value
returns-clause-value c = λ mode kept.
    let input : List ℕ = c.args.input.now in
    let most : ℕ = c.fitting_len-most.result in
    let size = c.spread_len-size.ensures c.args.input.now (omega (arith, c.requires.some, c.requires.len, c.fitting_len-most.ensures.few)) c.escape_mask-mask.ensures in
    let less : c.saturating_sub.result ≡ c.args.len - 1 = omega arith in
    let w = front_written c.args.room.now c.put_spread.new.room input c.args.at most c.spread_len-size.result (omega (arith, c.requires.room)) (omega (arith, c.requires.len, c.fitting_len-most.ensures.few)) size c.put_spread.ensures.written in
    ap₂ (λ o r. o ++ laid_out_from c.args.limit 0 (items mode r)) (c.put-end.ensures.written ∙ ap (λ o. o ++ 61 ∷ 13 ∷ 10 ∷ []) w) (take_rest input most)
    ∙ block-breaks mode c.args.limit c.args.used c.args.len most _ (take c.args.at c.args.room.now) input c.requires.limit c.requires.used (omega (arith, c.requires.some, c.requires.len)) (omega (arith, less, c.fitting_len-most.ensures.few, c.if-most-eq0.false)) c.requires.within refl (c.requires.broken mode kept)
    (c.fitting_len-most.ensures.fits input (omega (arith, c.requires.some, c.requires.len, less)) c.escape_mask-mask.ensures)
    (λ more. c.fitting_len-most.ensures.next input (omega (arith, c.requires.some, c.requires.len, less)) c.escape_mask-mask.ensures (omega (arith, more, less)))
