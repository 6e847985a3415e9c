use Rattle.std.proofs.Common.{◌≡◌, ℕ, ◌+◌, ◌-◌, [], ◌∷◌, ◌++◌, List, length, take, drop, true, false, ◌&&◌, sym, ◌∙◌, ap}
use Rattle.std.proofs.lemmas.List.{take_rest}
use Rattle.qp.specs.Items.{items, keeps_breaks, begins_break}
use Rattle.qp.specs.Layout.{laid_out_from}
use Rattle.qp.proofs.ItemLemmas.{turn-front, turn-break, turn-octet}
use Rattle.qp.proofs.encoder.put_front.Goals as goal

pub returns-in_default-clause-value : goal.returns-in_default-clause-value
returns-in_default-clause-value c = λ mode kept.
    let run : ℕ = c.put_run-run.result in
    turn-front mode c.args.limit c.args.used run _ _ c.args.input.now _ c.requires.used c.put_run-run.ensures.within c.put_run-run.ensures.room c.put_run-run.ensures.written (c.put_run-run.ensures.run mode) (take_rest c.args.input.now run)

pub returns-then-is_break-clause-value : goal.returns-then-is_break-clause-value
returns-then-is_break-clause-value c = λ mode kept.
    let run : ℕ = c.put_run-run.result in
    let rest : List ℕ = take (length c.args.input.now - run) (drop run c.args.input.now) in
    let front =
    turn-front mode c.args.limit c.args.used run _ _ c.args.input.now rest c.requires.used c.put_run-run.ensures.within c.put_run-run.ensures.room c.put_run-run.ensures.written (c.put_run-run.ensures.run mode) (take_rest c.args.input.now run) in
    let here : (keeps_breaks mode && begins_break rest) ≡ true = ap (λ t. t && begins_break rest) kept ∙ sym c.if-is_break.ensures in
    ap (λ o. o ++ laid_out_from c.args.limit 0 (items mode (take (length rest - 2) (drop 2 rest)))) c.put-end.ensures.written
    ∙ ap (λ r. (take (c.args.at + run) c.put_run-run.new.room ++ 13 ∷ 10 ∷ []) ++ laid_out_from c.args.limit 0 (items mode r)) (take_rest rest 2)
    ∙ turn-break mode c.args.limit (c.args.used + run) c.in-Some.byte.now _ rest c.in-Some.after.now _ c.in-Some.ensures.cases.0 here front

pub returns-clause-value : goal.returns-clause-value
returns-clause-value c = λ mode kept.
    let run : ℕ = c.put_run-run.result in
    let rest : List ℕ = take (length c.args.input.now - run) (drop run c.args.input.now) in
    let front =
    turn-front mode c.args.limit c.args.used run _ _ c.args.input.now rest c.requires.used c.put_run-run.ensures.within c.put_run-run.ensures.room c.put_run-run.ensures.written (c.put_run-run.ensures.run mode) (take_rest c.args.input.now run) in
    let here : (keeps_breaks mode && begins_break rest) ≡ false = ap (λ t. t && begins_break rest) kept ∙ sym c.if-is_break.ensures in
    turn-octet mode c.args.limit (c.args.used + run) _ c.in-Some.byte.now _ _ rest c.in-Some.after.now _
    c.in-Some.ensures.cases.0 here (c.put_octet-end.ensures.value mode kept) front
