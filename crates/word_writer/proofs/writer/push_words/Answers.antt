use Rattle.std.proofs.Common.{◌≡◌, ℕ, ◌<◌, ◌++◌, length, subst, sym, ap, ◌∙◌, append-nil, arith, string_bytes}
use Rattle.std.specs.Prelude.{IsUtf8, false, ◌==◌}
use Rattle.std.proofs.lemmas.Bool.{eqb-true}
use Rattle.std.proofs.lemmas.Bool.Decides.{nat_tests}
use Rattle.word_writer.proofs.Cutting.{behind-utf8, first-written, later-written, later-none}
use Rattle.word_writer.proofs.writer.push_words.Goals as goal

some-from : (n : ℕ) → (n == 0) ≡ false → 0 < n
some-from n h = grind (arith, nat_tests)

pub loop-rest-init : goal.loop-rest-init
loop-rest-init c = (
  subst IsUtf8 (sym c.in_ok-rest.ensures.rest) (behind-utf8 c.args.text.now c.utf8.text),
  first-written c.args.text.now c.in_ok-rest.rest.now (string_bytes c.args.written.now) (string_bytes c.push_word.new.written)
      c.utf8.text c.requires c.in_ok-rest.ensures.word c.in_ok-rest.ensures.rest,
)

pub loop-rest-preserved : goal.loop-rest-preserved
loop-rest-preserved c =
    let some : 0 < length c.loop-rest.rest.now = some-from (length c.loop-rest.rest.now) (sym c.loop-rest-test.ensures) in (
      subst IsUtf8 (sym c.in_ok-rest-2.ensures.rest) (behind-utf8 c.loop-rest.rest.now c.loop-rest.invariant.0),
      later-written c.loop-rest.rest.now c.in_ok-rest-2.rest.now (string_bytes c.loop-rest.written) (string_bytes c.push_str.new.self)
          (string_bytes c.push_word-in-loop-rest.new.written) _ c.loop-rest.invariant.0 some c.in_ok-push_str.ensures.bytes
          c.in_ok-rest-2.ensures.word c.in_ok-rest-2.ensures.rest c.loop-rest.invariant.1,
    )

pub returns : goal.returns
returns c =
    let none : length c.loop-rest.rest.now ≡ 0 = eqb-true (length c.loop-rest.rest.now) 0 (sym c.loop-rest-test.ensures) in
    sym (append-nil (string_bytes c.loop-rest.written)) ∙ ap (λ l. string_bytes c.loop-rest.written ++ l) (sym (later-none c.loop-rest.rest.now none)) ∙ c.loop-rest.invariant.1
