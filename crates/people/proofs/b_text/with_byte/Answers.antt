use Rattle.std.proofs.Common.{◌≡◌, ◌++◌, ◌∷◌, List, ℕ, sym, ap, ◌∙◌, subst}
use Rattle.std.specs.Prelude.{IfOk}
use Rattle.people.specs.BText.{b_octets_behind}
use Rattle.std.proofs.lemmas.Bool.{ne_eqb}
use Rattle.people.specs.Groups.{values, behind_letter}
use Rattle.people.proofs.BLemmas.{letter-goes, other-ignored}
use Rattle.people.proofs.b_text.with_byte.Goals as goal

pub returns-in-Some : goal.returns-in-Some
returns-in-Some c =
    let g : List ℕ = values c.args.group in
    let e : (rest : List ℕ) → behind_letter g c.in-Some.letter.number rest ≡ b_octets_behind g (c.args.byte ∷ rest) =
    λ rest. ap (λ v. behind_letter g v rest) c.in-Some.ensures.1 ∙ sym (letter-goes g c.args.byte rest c.in-Some.ensures.0) in
    subst (λ (F : List ℕ → List ℕ). IfOk c.with_letter.result (λ next. (rest : List ℕ) → c.with_letter.new.octets.items ++ b_octets_behind (values next) rest ≡ c.args.octets.now.items ++ F rest))
    (λ i rest. e rest i) c.with_letter.ensures

pub returns-in-None : goal.returns-in-None
returns-in-None c rest =
    ap (λ z. c.args.octets.now.items ++ z) (sym (other-ignored (values c.args.group) c.args.byte rest c.in-None.ensures (ne_eqb c.args.byte 61 c.if-byte-eq-PAD.false)))
