use Rattle.std.proofs.Common.{◌≡◌, ℕ, ◌+◌, ◌-◌, ◌≤◌, [], ◌∷◌, ◌++◌, List, length, take, drop, false, sym, ◌∙◌, ap, append_assoc, subst, arith}
use Rattle.std.proofs.lemmas.List.{take_rest, append-nil}
use lib.Lanes.{put_chunk}
use Rattle.qp.specs.Items.{ends_blank, may_stand_within}
use Rattle.qp.specs.Robust.{robust}
use Rattle.qp.proofs.LaneLemmas.{stored_run, fewer_pass}
use Rattle.qp.proofs.Front.{Begun, begun-at, begun-soft, robust-soft_at, robust-hard_at, turn-before, turn-ended}
use Rattle.qp.proofs.robust.put_text.Goals as goal

pub returns-in-Some-clause-value : goal.returns-in-Some-clause-value
returns-in-Some-clause-value c =
    let text : List ℕ = c.args.text.now in
    let run : ℕ = c.wide_plain_lanes-run.result in
    let rest : List ℕ = take (length text - run) (drop run text) in
    let left : List ℕ = take (length rest - 3) (drop 3 rest) in
    let out : List ℕ = take c.args.at c.args.room.now in
    let octet : ℕ = c.in-Some.octet in
    let begun : Begun (drop run text) = subst Begun (take_rest text run) (begun-at rest (omega (arith, c.in-Some.ensures.long)) c.in-Some.ensures.sign) in
    turn-before out (take c.put-end.result c.put-end.new.room) text left run c.wide_plain_lanes-run.ensures.run begun
    (ap (λ o. o ++ robust left) c.put-end.ensures.written
    ∙ ap (λ o. (o ++ octet ∷ []) ++ robust left) (stored_run 32 c.args.room.now text c.args.at run (omega (arith, c.requires.room)) (omega (arith, c.requires.text)) c.wide_plain_lanes-run.ensures.few)
    ∙ append_assoc (out ++ take run text) (octet ∷ []) (robust left)
    ∙ ap (λ r. (out ++ take run text) ++ octet ∷ robust r) (take_rest rest 3)
    ∙ ap (λ v. (out ++ take run text) ++ v) (sym c.in-Some.ensures.robust ∙ ap robust (take_rest text run)))

pub returns-then-is_soft_break-clause-value : goal.returns-then-is_soft_break-clause-value
returns-then-is_soft_break-clause-value c =
    let text : List ℕ = c.args.text.now in
    let run : ℕ = c.wide_plain_lanes-run.result in
    let rest : List ℕ = take (length text - run) (drop run text) in
    let left : List ℕ = take (length rest - 3) (drop 3 rest) in
    let out : List ℕ = take c.args.at c.args.room.now in
    let begun : Begun (drop run text) = subst Begun (take_rest text run) (begun-soft rest (sym c.if-is_soft_break.ensures)) in
    turn-before out _ text left run c.wide_plain_lanes-run.ensures.run begun
    (ap (λ o. o ++ robust left) (stored_run 32 c.args.room.now text c.args.at run (omega (arith, c.requires.room)) (omega (arith, c.requires.text)) c.wide_plain_lanes-run.ensures.few)
    ∙ ap (λ r. (out ++ take run text) ++ robust r) (take_rest rest 3)
    ∙ ap (λ v. (out ++ take run text) ++ v) (sym (robust-soft_at rest (sym c.if-is_soft_break.ensures)) ∙ ap robust (take_rest text run)))

pub returns-then-begins_break-clause-value : goal.returns-then-begins_break-clause-value
returns-then-begins_break-clause-value c =
    let text : List ℕ = c.args.text.now in
    let run : ℕ = c.wide_plain_lanes-run.result in
    let rest : List ℕ = take (length text - run) (drop run text) in
    let left : List ℕ = take (length rest - 2) (drop 2 rest) in
    let out : List ℕ = take c.args.at c.args.room.now in
    let ended : ends_blank (take run text) ≡ false = cc in
    turn-ended out (take c.put-end-then-begins_break.result c.put-end-then-begins_break.new.room) text left run c.wide_plain_lanes-run.ensures.run ended
    (ap (λ o. o ++ robust left) c.put-end-then-begins_break.ensures.written
    ∙ ap (λ o. (o ++ 13 ∷ 10 ∷ []) ++ robust left) (stored_run 32 c.args.room.now text c.args.at run (omega (arith, c.requires.room)) (omega (arith, c.requires.text)) c.wide_plain_lanes-run.ensures.few)
    ∙ append_assoc (out ++ take run text) (13 ∷ 10 ∷ []) (robust left)
    ∙ ap (λ r. (out ++ take run text) ++ 13 ∷ 10 ∷ robust r) (take_rest rest 2)
    ∙ ap (λ v. (out ++ take run text) ++ v) (sym (robust-hard_at rest (sym c.if-begins_break.ensures)) ∙ ap robust (take_rest text run)))

pub returns-then-ends_blank-clause-value : goal.returns-then-ends_blank-clause-value
returns-then-ends_blank-clause-value c =
    let text : List ℕ = c.args.text.now in
    let same : c.args.at ≡ c.args.at + 0 = omega arith in
    ap (λ o. o ++ robust text)
    (ap (λ n. take n (put_chunk c.args.at c.args.room.now (take 32 text))) same
    ∙ stored_run 32 c.args.room.now text c.args.at 0 (omega (arith, c.requires.room)) (omega (arith, c.requires.text)) (omega arith)
    ∙ append-nil (take c.args.at c.args.room.now))

pub returns-clause-value : goal.returns-clause-value
returns-clause-value c =
    let text : List ℕ = c.args.text.now in
    let cut : ℕ = c.saturating_sub-cut.result in
    let run : ℕ = c.wide_plain_lanes-run.result in
    let out : List ℕ = take c.args.at c.args.room.now in
    let less : cut ≤ run = omega arith in
    turn-ended out _ text _ cut (fewer_pass may_stand_within cut run text less c.wide_plain_lanes-run.ensures.run) (sym c.if-ends_blank.ensures)
    (ap (λ o. o ++ robust (take (length text - cut) (drop cut text)))
    (stored_run 32 c.args.room.now text c.args.at cut (omega (arith, c.requires.room)) (omega (arith, c.requires.text)) (omega (arith, less, c.wide_plain_lanes-run.ensures.few)))
    ∙ ap (λ r. (out ++ take cut text) ++ robust r) (take_rest text cut))
