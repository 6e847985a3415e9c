use Rattle.std.proofs.Common.{◌≡◌, ◌+◌, ◌-◌, ◌<◌, ℕ, List, Some, None, length, drop, take, sym, ap, ◌∙◌, subst, arith}
use Rattle.std.proofs.lemmas.List.{take_rest, length-drop}
use Rattle.words.specs.Word.{Word, spelling, word_at}
use Rattle.words.specs.Lexer.{sliced_word, NoWordBefore, IsFirstWord}
use Rattle.words.proofs.Search.{no_word-skipped, no_word-next, skipped-within, word-within, first_word-found}
use Rattle.words.proofs.lexer.first_word.Goals as goal

pub slice_bounds-result-count : goal.slice_bounds-result-count
slice_bounds-result-count c =
    let s : List ℕ = c.args.bytes.now in
    let n : ℕ = c.loop-skipped.at + c.in-Some.skipped in
    let w : Word = sliced_word c.in-Some-word_at.word in
    let found : word_at (drop n s) ≡ Some w = ap word_at (sym (take_rest s n)) ∙ sym c.in-Some-word_at.ensures.value in
    omega (arith, word-within s n w found, ap length c.in-Some-word_at.ensures.spelled)

pub slice_bounds-result-start : goal.slice_bounds-result-start
slice_bounds-result-start c =
    let s : List ℕ = c.args.bytes.now in
    let n : ℕ = c.loop-skipped.at + c.in-Some.skipped in
    let w : Word = sliced_word c.in-Some-word_at.word in
    let found : word_at (drop n s) ≡ Some w = ap word_at (sym (take_rest s n)) ∙ sym c.in-Some-word_at.ensures.value in
    omega (arith, word-within s n w found, ap length c.in-Some-word_at.ensures.spelled)

pub returns-in-Some-word_at-clause-found : goal.returns-in-Some-word_at-clause-found
returns-in-Some-word_at-clause-found c =
    let s : List ℕ = c.args.bytes.now in
    let at : ℕ = c.loop-skipped.at in
    let m : ℕ = c.in-Some.skipped in
    let i = c.loop-skipped.invariant in
    let w : Word = sliced_word c.in-Some-word_at.word in
    let found : word_at (drop (at + m) s) ≡ Some w = ap word_at (sym (take_rest s (at + m))) ∙ sym c.in-Some-word_at.ensures.value in
    let within : at + m < length s = skipped-within s at m i.within c.in-Some.ensures.0.high in
    let none : NoWordBefore s (at + m) = no_word-skipped s at _ m (take_rest s at) (omega arith) i.none_before c.in-Some.ensures.0.before in
    let after : drop (at + m + length (spelling w)) s ≡ _ =
    ap (λ k. drop (at + m + k) s) (sym (ap length c.in-Some-word_at.ensures.spelled)) ∙ sym (take_rest s (at + m + length c.in-Some-word_at.word.spelling.now)) in
    subst (λ z. IsFirstWord s (take (at + m) s) w z) after (first_word-found s (at + m) w none found)

pub loop-skipped-preserved : goal.loop-skipped-preserved
loop-skipped-preserved c =
    let s : List ℕ = c.args.bytes.now in
    let at : ℕ = c.loop-skipped.at in
    let m : ℕ = c.in-Some.skipped in
    let i = c.loop-skipped.invariant in
    let here : word_at (drop (at + m) s) ≡ None = ap word_at (sym (take_rest s (at + m))) ∙ sym c.in-None.ensures.value in
    let within : at + m < length s = skipped-within s at m i.within c.in-Some.ensures.0.high in
    let none : NoWordBefore s (at + m) = no_word-skipped s at _ m (take_rest s at) (omega arith) i.none_before c.in-Some.ensures.0.before in
    record { within = omega arith; none_before = no_word-next s (at + m) none here }

pub returns-clause-none : goal.returns-clause-none
returns-clause-none c =
    let s : List ℕ = c.args.bytes.now in
    let at : ℕ = c.loop-skipped.at in
    let i = c.loop-skipped.invariant in
    let within = i.within in
    let long : at + length (take (length s - at) (drop at s)) ≡ length s = omega (arith, length-drop at s, ap length (take_rest s at)) in
    subst (NoWordBefore s) long (no_word-skipped s at _ _ (take_rest s at) (omega arith) i.none_before c.in_default.ensures)
