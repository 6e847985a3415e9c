use Rattle.std.proofs.Common.{◌≡◌, ◌+◌, ◌-◌, ◌<◌, ◌++◌, ℕ, List, Some, None, length, drop, take, sym, ap, ◌∙◌, subst, arith}
use Rattle.std.proofs.lemmas.List.{take_rest, length-drop}
use Rattle.enc_front.specs.Indexes.{Indexes, indexes_of}
use Rattle.people.specs.Slices.{Seen, NoWordBefore}
use Rattle.people.specs.Word.{Word, word_at}
use Rattle.people.proofs.WordLemmas.{no_word-skipped, no_word-next, skipped-within, word-within, finds-none-word, finds-some-word, finds-first}
use Rattle.people.proofs.pieces.first_word.Goals as goal

pub loop-skipped-preserved : goal.loop-skipped-preserved
loop-skipped-preserved c =
    let T : Indexes = indexes_of c.args.tables.now in
    let s : List ℕ = c.args.bytes.now in
    let at : ℕ = c.loop-skipped.at in
    let m : ℕ = c.in-Some.skipped in
    let i = c.loop-skipped.invariant in
    let f = rw c.in-None.is at c.in_ok-word_at.ensures in
    let p = finds-none-word _ _ _ f in
    let here : word_at T (drop (at + m) s) ≡ None = ap (word_at T) (sym (take_rest s (at + m))) ∙ p.0 in
    let within : at + m < length s = skipped-within T s at m i.within c.in-Some.ensures.0.high in
    let none : NoWordBefore (word_at T) s (at + m) = no_word-skipped T s at _ m (take_rest s at) (omega arith) i.none_before c.in-Some.ensures.0.before in
    record { within = omega arith; none_before = no_word-next T s (at + m) none here; octets = p.1 ∙ i.octets }

pub slice_bounds-result-count : goal.slice_bounds-result-count
slice_bounds-result-count c =
    let T : Indexes = indexes_of c.args.tables.now in
    let s : List ℕ = c.args.bytes.now in
    let n : ℕ = c.loop-skipped.at + c.in-Some.skipped in
    let q = finds-some-word _ _ _ _ (rw c.in-Some-2.is at c.in_ok-word_at.ensures) in
    let found : word_at T (drop n s) ≡ Some q.0 = ap (word_at T) (sym (take_rest s n)) ∙ q.1 in
    omega (arith, word-within T s n q.0 found, ap (λ (z : Seen). length z.1) q.2)

pub slice_bounds-result-start : goal.slice_bounds-result-start
slice_bounds-result-start c =
    let T : Indexes = indexes_of c.args.tables.now in
    let s : List ℕ = c.args.bytes.now in
    let n : ℕ = c.loop-skipped.at + c.in-Some.skipped in
    let q = finds-some-word _ _ _ _ (rw c.in-Some-2.is at c.in_ok-word_at.ensures) in
    let found : word_at T (drop n s) ≡ Some q.0 = ap (word_at T) (sym (take_rest s n)) ∙ q.1 in
    omega (arith, word-within T s n q.0 found, ap (λ (z : Seen). length z.1) q.2)

pub returns-in-Some-2-clause-found : goal.returns-in-Some-2-clause-found
returns-in-Some-2-clause-found c =
    let T : Indexes = indexes_of c.args.tables.now in
    let s : List ℕ = c.args.bytes.now in
    let at : ℕ = c.loop-skipped.at in
    let m : ℕ = c.in-Some.skipped in
    let n : ℕ = at + m in
    let i = c.loop-skipped.invariant in
    let q = finds-some-word _ _ _ _ (rw c.in-Some-2.is at c.in_ok-word_at.ensures) in
    let w : Word = q.0 in
    let found : word_at T (drop n s) ≡ Some w = ap (word_at T) (sym (take_rest s n)) ∙ q.1 in
    let within : n < length s = skipped-within T s at m i.within c.in-Some.ensures.0.high in
    let none : NoWordBefore (word_at T) s n = no_word-skipped T s at _ m (take_rest s at) (omega arith) i.none_before c.in-Some.ensures.0.before in
    let after : drop (n + length w.spelling) s ≡ _ =
    ap (λ k. drop (n + k) s) (sym (ap (λ (z : Seen). length z.1) q.2)) ∙ sym (take_rest s (n + length c.in-Some-2.word.spelling.now)) in
    finds-first T s n w c.in-Some-2.word _ c.args.octets.now.items _ found q.2 none (omega arith) (q.3 ∙ ap (λ z. z ++ w.octets) i.octets) after

pub returns-clause-none : goal.returns-clause-none
returns-clause-none c =
    let T : Indexes = indexes_of c.args.tables.now in
    let s : List ℕ = c.args.bytes.now in
    let at : ℕ = c.loop-skipped.at in
    let i = c.loop-skipped.invariant in
    let within = i.within in
    let long : at + length (take (length s - at) (drop at s)) ≡ length s = omega (arith, length-drop at s, ap length (take_rest s at)) in
    (subst (NoWordBefore (word_at T) s) long (no_word-skipped T s at _ _ (take_rest s at) (omega arith) i.none_before c.in_default.ensures), i.octets)
