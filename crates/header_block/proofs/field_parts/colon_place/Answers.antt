use Rattle.std.proofs.Common.{rules, arith, sym, length}
use Rattle.std.proofs.lemmas.List.Sums.{position_or_len_is}
use Rattle.header_block.specs.Parts.{is_colon}
use Rattle.header_block.proofs.field_parts.colon_place.Goals as goal

pub returns-then-byte-eq58-clause-place : goal.returns-then-byte-eq58-clause-place
returns-then-byte-eq58-clause-place c =
    sym (position_or_len_is is_colon c.args.field.now c.loop-i.i 0 (omega arith) c.loop-i.invariant (λ l. search rules))

pub returns-clause-place : goal.returns-clause-place
returns-clause-place c =
    sym (position_or_len_is is_colon c.args.field.now (length c.args.field.now) 0 (omega arith) (λ k l. c.loop-i.invariant k (omega arith)) (λ l. absurd (omega arith)))
