use Rattle.std.proofs.Common.{◌≡◌, ℕ, ◌+◌, ◌*◌, ◌%◌, ◌^◌, ◌<◌, ap, ap₂, ◌∙◌, arith}
use Rattle.std.specs.Prelude.{count_ones}
use Rattle.std.proofs.Math.Nat.{mod-eq_of_lt}
use Rattle.std.proofs.lemmas.Nat.{pow_below}
use Rattle.qp.proofs.SpreadLemmas.{front_ones}
use Rattle.qp.proofs.spread.spread_len.Goals as goal

pub returns : goal.returns
returns c = λ text long told.
    let len : ℕ = c.args.len in
    let small : 2 ^ len < 2 ^ 64 = pow_below len 64 (omega (arith, c.requires)) in
    let power : 1 * 2 ^ len % 2 ^ 64 ≡ 2 ^ len = ap (λ n. n % 2 ^ 64) (let e : 1 * 2 ^ len ≡ 2 ^ len = omega arith in e) ∙ mod-eq_of_lt small in
    ap₂ (λ m p. len + 2 * count_ones (m % p)) told power ∙ front_ones text len long c.requires
