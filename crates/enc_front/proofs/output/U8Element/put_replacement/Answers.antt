use Rattle.std.proofs.Common.{◌≡◌, ℕ, ◌≤◌, List, [], ◌∷◌, length, take, refl, arith, slice_set}
use Rattle.enc_drivers.specs.Units.{replacement}
use Rattle.enc_front.proofs.output.U8Element.put_replacement.Goals as goal

put_three : (dst : List ℕ) → 3 ≤ length dst
    → take 3 (slice_set (slice_set (slice_set dst 0 0xEF) 1 0xBF) 2 0xBD) ≡ replacement
put_three [] h = absurd (omega arith)
put_three (a ∷ []) h = absurd (omega arith)
put_three (a ∷ b ∷ []) h = absurd (omega arith)
put_three (a ∷ b ∷ d ∷ dst) h = refl

pub returns-clause-text : goal.returns-clause-text
returns-clause-text c = put_three c.args.dst.now c.if-dst-lt3.false
