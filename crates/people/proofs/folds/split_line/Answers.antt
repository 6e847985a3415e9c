use Rattle.std.proofs.Common.{ℕ, ◌+◌, ◌++◌, ◌≡◌, List, ◌∷◌, [], take, drop, true, false, sym, ◌∙◌, ap, arith, slice_index}
use Rattle.std.proofs.lemmas.List.{take_rest, take_more}
use Rattle.std.proofs.lemmas.Bool.{eqb-true}
use Rattle.people.specs.Unfolded.{begins_blank, unfolded}
use Rattle.people.proofs.Bytes.{none-before, none-at-all, cut-at}
use Rattle.people.proofs.FoldLemmas.{is_line_end, unfolded-text, unfolded-line, unfolded-fold}
use Rattle.people.proofs.folds.split_line.Goals as goal

pub returns-in_err-end-clause-none : goal.returns-in_err-end-clause-none
returns-in_err-end-clause-none c =
    rw c.from_residual.ensures (unfolded-text c.args.bytes.now (none-at-all is_line_end c.args.bytes.now c.in_err-end.ensures))

pub returns-then-begins_blank-clause-some : goal.returns-then-begins_blank-clause-some
returns-then-begins_blank-clause-some c =
    let s : List ℕ = c.args.bytes.now in
    let m : ℕ = c.in_ok-end.end in
    let f = c.in_ok-end.ensures in
    let after : List ℕ = drop (m + 1) s in
    let cut : s ≡ take m s ++ 10 ∷ after = cut-at s m f.0.high ∙ ap (λ b. take m s ++ b ∷ after) (eqb-true (slice_index s m) 10 f.1) in
    let blank : begins_blank after ≡ true = ap begins_blank (sym (take_rest s (m + 1))) ∙ sym c.if-begins_blank.ensures in
    let inside = f.0.high in
    ap unfolded cut ∙ unfolded-fold (take m s) after (none-before is_line_end s m (omega arith) f.0.before) blank
    ∙ (λ i. sym c.without_return.ensures i ++ unfolded (sym (take_rest s (m + 1)) i))

pub returns-clause-some : goal.returns-clause-some
returns-clause-some c =
    let s : List ℕ = c.args.bytes.now in
    let m : ℕ = c.in_ok-end.end in
    let f = c.in_ok-end.ensures in
    let after : List ℕ = drop (m + 1) s in
    let line : 10 ≡ slice_index s m = sym (eqb-true (slice_index s m) 10 f.1) in
    let cut : s ≡ take m s ++ 10 ∷ after = cut-at s m f.0.high ∙ ap (λ b. take m s ++ b ∷ after) (sym line) in
    let blank : begins_blank after ≡ false = ap begins_blank (sym (take_rest s (m + 1))) ∙ sym c.if-begins_blank.ensures in
    let inside = f.0.high in
    ap unfolded cut ∙ unfolded-line (take m s) after (none-before is_line_end s m (omega arith) f.0.before) blank
    ∙ (λ i. (ap (λ b. take m s ++ b ∷ []) line ∙ sym (take_more s m 0 f.0.high)) i ++ unfolded (sym (take_rest s (m + 1)) i))
