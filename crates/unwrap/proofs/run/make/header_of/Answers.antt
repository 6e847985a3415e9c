use Rattle.std.proofs.Common.{rules, ◌++◌, ap, sym, ◌∙◌, arith}
use Rattle.unwrap.specs.Made.{part, separator}
use Rattle.unwrap.proofs.Making.{made-more, made-none}
use Rattle.unwrap.proofs.run.make.header_of.Goals as goal

pub loop-number-init : goal.loop-number-init
loop-number-init c = record { text = search (rules, made-none); within = omega arith }

pub loop-number-preserved : goal.loop-number-preserved
loop-number-preserved c =
    record {
      text = c.in_ok-push_part.ensures
          ∙ ap (λ l. l ++ part c.loop-number.number) (c.in_ok-push_separator.ensures ∙ ap (λ l. l ++ separator c.loop-number.number) c.loop-number.invariant.text)
          ∙ sym (made-more c.loop-number.number);
      within = search rules;
    }
