use Rattle.std.proofs.Common.{◌≡◌, ℕ, ◌<◌, List, [], ◌∷◌, length, take, refl, arith, rules}
use Rattle.std.proofs.Common.{slice_set}
use Rattle.enc_front.proofs.output.U16Element.put_replacement.Goals as goal

put_one : (dst : List ℕ) → 0 < length dst → take 1 (slice_set dst 0 0xFFFD) ≡ 0xFFFD ∷ []
put_one [] h = absurd (omega arith)
put_one (a ∷ dst) h = refl

pub returns-clause-text : goal.returns-clause-text
returns-clause-text c = put_one c.args.dst.now (search rules)
