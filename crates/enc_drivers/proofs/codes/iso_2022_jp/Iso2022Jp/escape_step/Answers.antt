use Rattle.std.proofs.Common.{◌≤◌, cond, length, sym, ap, ◌∙◌, arith}
use Rattle.enc_drivers.specs.declared.unit.Item.TheVariants.{Malformed}
use Rattle.enc_drivers.specs.declared.unit.Mode.TheVariants.{Within}
use Rattle.enc_drivers.specs.declared.code.Step.TheVariants as step
use Rattle.enc_drivers.specs.Units.{malformed_at}
use Rattle.enc_drivers.specs.Codes.Iso2022Jp.{set_of, escaped, iso_2022_jp_unit}
use Rattle.enc_drivers.proofs.StepLemmas.{decided_step}
use Rattle.enc_drivers.proofs.Iso2022JpSteps.{cut_to, escape_at_end, escape_undecided, name_at_end, name_undecided, no_name_front, escape_front}
use Rattle.enc_drivers.proofs.codes.iso_2022_jp.Iso2022Jp.escape_step.Goals as goal

pub returns-then-front-lt2 : goal.returns-then-front-lt2
returns-then-front-lt2 g c =
    let a = c.args in
    let jis0208 = g.L.Lookup.places a.self.now.jis0208.now in
    cut_to (iso_2022_jp_unit jis0208) a.mode (Within (set_of a.mode)) a.front.now a.last c.cut.result 1
    (c.cut.ensures ∙ ap (λ set. cond a.last (step.Unit Malformed 1 (Within set)) step.More) c.set_of.ensures)
    (escape_at_end jis0208 a.mode a.front.now c.requires.some c.if-front-lt2.true c.requires.escape)
    (escape_undecided jis0208 a.mode a.front.now c.requires.some c.if-front-lt2.true c.requires.escape)

pub returns-then-front-ge3 : goal.returns-then-front-ge3
returns-then-front-ge3 g c =
    let a = c.args in
    let jis0208 = g.L.Lookup.places a.self.now.jis0208.now in
    decided_step (iso_2022_jp_unit jis0208) a.mode a.front.now a.last c.escaped.result (escaped a.mode c.escape_set.result) c.escaped.ensures
    (λ more are. escape_front jis0208 a.mode a.front.now more c.if-front-ge3.true c.requires.escape ∙ ap (escaped a.mode) (sym c.escape_set.ensures))

pub returns-then-begins_name : goal.returns-then-begins_name
returns-then-begins_name g c =
    let a = c.args in
    let jis0208 = g.L.Lookup.places a.self.now.jis0208.now in
    let two : 2 ≤ length a.front.now = omega arith in
    cut_to (iso_2022_jp_unit jis0208) a.mode (Within (set_of a.mode)) a.front.now a.last c.cut-then-begins_name.result 1
    (c.cut-then-begins_name.ensures ∙ ap (λ set. cond a.last (step.Unit Malformed 1 (Within set)) step.More) c.set_of-then-begins_name.ensures)
    (name_at_end jis0208 a.mode a.front.now two (omega arith) c.requires.escape)
    (name_undecided jis0208 a.mode a.front.now two (omega arith) c.requires.escape (sym c.begins_name.ensures ∙ c.if-begins_name.true))

pub returns : goal.returns
returns g c =
    let a = c.args in
    let jis0208 = g.L.Lookup.places a.self.now.jis0208.now in
    decided_step (iso_2022_jp_unit jis0208) a.mode a.front.now a.last c.malformed.result (malformed_at (Within (set_of a.mode)) 1)
    (c.malformed.ensures ∙ ap (λ set. step.Unit Malformed 1 (Within set)) c.set_of-2.ensures)
    (λ more are. no_name_front jis0208 a.mode a.front.now more (omega arith) c.requires.escape (sym c.begins_name.ensures ∙ c.if-begins_name.false))
