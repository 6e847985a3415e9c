use Rattle.std.proofs.Common.{◌≡◌, ℕ, ◌++◌, List, length, take, sym, ◌∙◌, ap, append_assoc, arith}
use Rattle.std.proofs.lemmas.List.{append-nil, nil_from_length}
use Rattle.qp.specs.Items.{items}
use Rattle.qp.specs.Layout.{laid_out_from, laid_out}
use Rattle.qp.proofs.ItemLemmas.{lay-none}
use Rattle.qp.proofs.encoder.lay_out.Goals as goal

pub loop-rest-init : goal.loop-rest-init
unfolding laid_out
loop-rest-init c = record {
  value = ap (λ out. out ++ laid_out_from c.args.limit 0 (items c.args.mode.now c.args.input.now)) c.in_ok-encoded.ensures.items;
  most = omega arith;
}

pub loop-rest-preserved : goal.loop-rest-preserved
loop-rest-preserved c =
    let mode = c.args.mode.now in
    let out : List ℕ = c.loop-rest.encoded.items in
    let more : List ℕ = laid_out_from c.args.limit c.fill-len.result.1 (items mode c.fill-len.result.2.now) in
    record {
      value = ap (λ o. o ++ more) c.in_ok-extend_from_slice.ensures.items
          ∙ append_assoc out (take c.fill-len.result.0 c.fill-len.new.room) more
          ∙ ap (λ t. out ++ t) (c.fill-len.ensures.value mode (sym c.keeps_breaks-text.ensures))
          ∙ c.loop-rest.invariant.value;
      most = c.fill-len.ensures.most;
    }

pub returns : goal.returns
unfolding items
returns c =
    let out : List ℕ = c.loop-rest.encoded.items in
    let none : length c.loop-rest.rest.now ≡ 0 = grind arith in
    sym (append-nil out)
    ∙ ap (λ t. out ++ t) (sym (lay-none c.args.limit c.loop-rest.used))
    ∙ ap (λ r. out ++ laid_out_from c.args.limit c.loop-rest.used (items c.args.mode.now r)) (sym (nil_from_length c.loop-rest.rest.now none))
    ∙ c.loop-rest.invariant.value
