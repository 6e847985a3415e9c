use Rattle.std.proofs.Common.{◌≡◌, ◌+◌, ◌-◌, ◌*◌, get_or, sym, ap, ◌∙◌, arith}
use Rattle.enc_drivers.specs.declared.unit.Item.TheVariants.{One}
use Rattle.enc_drivers.specs.declared.unit.Mode.TheVariants.{Within}
use Rattle.enc_drivers.specs.declared.code.Step.TheVariants as step
use Rattle.enc_drivers.specs.Units.{malformed_at, scalar_at}
use Rattle.enc_drivers.specs.Codes.Sequence.{whole_unit}
use Rattle.enc_drivers.specs.Codes.Iso2022Jp.{iso_2022_jp_unit}
use Rattle.enc_drivers.proofs.StepLemmas.{decided_step}
use Rattle.enc_drivers.proofs.Iso2022JpSteps.{cut_to, BeginsPair, single_front, plain_front, lead_at_end, lead_undecided, before_escape_front, no_pair_front, pair_front}
use Rattle.enc_drivers.proofs.codes.iso_2022_jp.Iso2022JpCode.step.Goals as goal

pub returns-then-is_plain : goal.returns-then-is_plain
returns-then-is_plain g c =
    let a = c.args in
    let jis0208 = g.L.Lookup.places a.self.now.jis0208.now in
    let plain = c.is_plain.ensures c.if-is_plain.true in
    decided_step (iso_2022_jp_unit jis0208) a.mode a.front.now a.last c.one.result (scalar_at a.mode (get_or a.front.now 0 0) 1)
    (c.one.ensures ∙ ap (λ s. step.Unit (One s) 1 a.mode) c.from.ensures)
    (λ more are. plain_front jis0208 a.mode a.front.now more c.requires.some plain)

pub returns-then-not-is_lead : goal.returns-then-not-is_lead
returns-then-not-is_lead g c =
    let a = c.args in
    let jis0208 = g.L.Lookup.places a.self.now.jis0208.now in
    let set = c.set_of-set.result in
    decided_step (iso_2022_jp_unit jis0208) a.mode a.front.now a.last c.whole.result (whole_unit (Within set) c.single_scalar.result 1) c.whole.ensures
    (λ more are.
    single_front jis0208 a.mode set a.front.now more c.requires.some c.if-first-eq27.false c.set_of-set.ensures (sym c.is_lead.ensures ∙ c.if-not-is_lead.true)
    ∙ ap (λ o. whole_unit (Within set) o 1) (sym c.single_scalar.ensures))

pub returns-then-front-lt2 : goal.returns-then-front-lt2
returns-then-front-lt2 g c =
    let a = c.args in
    let jis0208 = g.L.Lookup.places a.self.now.jis0208.now in
    let set = c.set_of-set.result in
    let begins : BeginsPair a.mode set a.front.now = record { some = c.requires.some; no_escape = c.if-first-eq27.false; set_is = c.set_of-set.ensures; lead = sym c.is_lead.ensures ∙ c.if-not-is_lead.false } in
    cut_to (iso_2022_jp_unit jis0208) a.mode (Within set) a.front.now a.last c.cut.result 1 c.cut.ensures
    (lead_at_end jis0208 a.mode set a.front.now begins c.if-front-lt2.true)
    (lead_undecided jis0208 a.mode set a.front.now begins c.if-front-lt2.true)

pub returns-then-second-eq27 : goal.returns-then-second-eq27
returns-then-second-eq27 g c =
    let a = c.args in
    let jis0208 = g.L.Lookup.places a.self.now.jis0208.now in
    let set = c.set_of-set.result in
    let begins : BeginsPair a.mode set a.front.now = record { some = c.requires.some; no_escape = c.if-first-eq27.false; set_is = c.set_of-set.ensures; lead = sym c.is_lead.ensures ∙ c.if-not-is_lead.false } in
    decided_step (iso_2022_jp_unit jis0208) a.mode a.front.now a.last c.malformed.result (malformed_at (Within set) 1) c.malformed.ensures
    (λ more are. before_escape_front jis0208 a.mode set a.front.now more begins (omega arith) c.if-second-eq27.true)

pub returns-then-not-is_in_row : goal.returns-then-not-is_in_row
returns-then-not-is_in_row g c =
    let a = c.args in
    let jis0208 = g.L.Lookup.places a.self.now.jis0208.now in
    let set = c.set_of-set.result in
    let begins : BeginsPair a.mode set a.front.now = record { some = c.requires.some; no_escape = c.if-first-eq27.false; set_is = c.set_of-set.ensures; lead = sym c.is_lead.ensures ∙ c.if-not-is_lead.false } in
    decided_step (iso_2022_jp_unit jis0208) a.mode a.front.now a.last c.malformed-then-not-is_in_row.result (malformed_at (Within set) 2) c.malformed-then-not-is_in_row.ensures
    (λ more are. no_pair_front jis0208 a.mode set a.front.now more begins (omega arith) c.if-second-eq27.false (sym c.is_in_row.ensures ∙ c.if-not-is_in_row.true))

pub returns : goal.returns
returns g c =
    let a = c.args in
    let jis0208 = g.L.Lookup.places a.self.now.jis0208.now in
    let set = c.set_of-set.result in
    let begins : BeginsPair a.mode set a.front.now = record { some = c.requires.some; no_escape = c.if-first-eq27.false; set_is = c.set_of-set.ensures; lead = sym c.is_lead.ensures ∙ c.if-not-is_lead.false } in
    let first = get_or a.front.now 0 0 in
    let place : c.from-2.result * 94 + c.from-3.result ≡ (first - 0x21) * 94 + (get_or a.front.now 1 0 - 0x21) =
    ap (λ x. x * 94 + c.from-3.result) c.from-2.ensures ∙ ap (λ y. (first - 0x21) * 94 + y) c.from-3.ensures
    in
    decided_step (iso_2022_jp_unit jis0208) a.mode a.front.now a.last c.whole-2.result (whole_unit (Within set) c.at.result 2) c.whole-2.ensures
    (λ more are.
    pair_front jis0208 a.mode set a.front.now more begins (omega arith) c.if-second-eq27.false (sym c.is_in_row.ensures ∙ c.if-not-is_in_row.false)
    ∙ ap (λ o. whole_unit (Within set) o 2) (sym (c.at.ensures ∙ ap jis0208 place)))
