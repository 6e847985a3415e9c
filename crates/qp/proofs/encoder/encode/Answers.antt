use Rattle.std.proofs.Common.{ℕ, ◌<◌, List, All, sym, ap, ◌∙◌, subst, arith}
use Rattle.std.specs.Str.{IsUtf8}
use Rattle.std.proofs.lemmas.List.Elements.{All-from_get_or}
use Rattle.qp.specs.Strict.{strict}
use Rattle.qp.proofs.Inverse.{reads_back_law, utf8_law}
use Rattle.qp.proofs.encoder.encode.Goals as goal

pub returns-clause-reads_back : goal.returns-clause-reads_back
returns-clause-reads_back c =
    let input : List ℕ = c.args.input.now in
    let are : All (λ b. b < 256) input = All-from_get_or (λ b. b < 256) input 0 (λ i h. omega (arith, c.type_inv.input i)) in
    ap (strict c.args.limit) c.in_ok-encoded.ensures ∙ reads_back_law c.args.mode.now c.args.limit input c.requires are

pub returns-clause-utf8 : goal.returns-clause-utf8
returns-clause-utf8 c =
    let input : List ℕ = c.args.input.now in
    let are : All (λ b. b < 256) input = All-from_get_or (λ b. b < 256) input 0 (λ i h. omega (arith, c.type_inv.input i)) in
    subst IsUtf8 (sym c.in_ok-encoded.ensures) (utf8_law c.args.mode.now c.args.limit input c.requires are)
