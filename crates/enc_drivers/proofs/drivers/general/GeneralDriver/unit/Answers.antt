use Rattle.std.proofs.Common.{◌<◌, ◌∙◌, length, ap, refl, arith}
use Rattle.std.proofs.lemmas.List.Elements.{All-from_get_or}
use Rattle.enc_drivers.specs.Units.{AreBytes}
use Rattle.enc_drivers.proofs.FrontSteps.{reads_none}
use Rattle.enc_drivers.proofs.Runs.{found_here, malformed_here, written_here, shorter_here, few_here, reads_here, ends_here}
use Rattle.enc_drivers.proofs.Turns.{goes_none}
use Rattle.enc_drivers.proofs.drivers.general.GeneralDriver.unit.Goals as goal

pub invariant_of-self : goal.invariant_of-self
invariant_of-self g c =
    let are : AreBytes c.args.src.now = All-from_get_or (λ b. b < 256) c.args.src.now 0 (λ i h. omega (arith, c.type_inv.src i)) in
    let more = rw c.first_four-front.ensures at c.in_default.ensures in
    record {
      few = few_here _ (g.met.C.Code.laws c.args.self.now.code) c.args.last c.args.self.now.mode _ _ c.args.src.now _ are c.requires.nothing
          (c.of-self.ensures ∙ c.first_four-front.ensures) (ap length c.first_four-front.ensures) more.1;
    }

pub returns-in_default-clause-goes : goal.returns-in_default-clause-goes
returns-in_default-clause-goes g c =
    let are : AreBytes c.args.src.now = All-from_get_or (λ b. b < 256) c.args.src.now 0 (λ i h. omega (arith, c.type_inv.src i)) in
    let more = rw c.first_four-front.ensures at c.in_default.ensures in
    goes_none _ _ _ _ _ _ _ _ _ _
    (reads_here _ (g.met.C.Code.laws c.args.self.now.code) c.args.last _ _ _ _ _ are c.requires.nothing
    (c.of-self.ensures ∙ c.first_four-front.ensures) (ap length c.first_four-front.ensures) more.1)
    refl

pub returns-in_default-clause-ends : goal.returns-in_default-clause-ends
returns-in_default-clause-ends g c =
    let are : AreBytes c.args.src.now = All-from_get_or (λ b. b < 256) c.args.src.now 0 (λ i h. omega (arith, c.type_inv.src i)) in
    let more = rw c.first_four-front.ensures at c.in_default.ensures in
    ends_here _ (g.met.C.Code.laws c.args.self.now.code) c.args.last _ _ _ _ _ are c.requires.nothing
    (c.of-self.ensures ∙ c.first_four-front.ensures) (ap length c.first_four-front.ensures) more.1 more.0

pub returns-in-Malformed-clause-goes : goal.returns-in-Malformed-clause-goes
returns-in-Malformed-clause-goes g c =
    let are : AreBytes c.args.src.now = All-from_get_or (λ b. b < 256) c.args.src.now 0 (λ i h. omega (arith, c.type_inv.src i)) in
    let decided = rw c.first_four-front.ensures at c.in-Unit.ensures in
    malformed_here _ (g.met.C.Code.laws c.args.self.now.code) _ _ _ _ _ _ _ _ are c.requires.some c.requires.nothing decided _ _ c.from.ensures c.in-Malformed.is

pub write_item-requires : goal.write_item-requires
write_item-requires g c =
    let are : AreBytes c.args.src.now = All-from_get_or (λ b. b < 256) c.args.src.now 0 (λ i h. omega (arith, c.type_inv.src i)) in
    let decided = rw c.first_four-front.ensures at c.in-Unit.ensures in
    (found_here _ (g.met.C.Code.laws c.args.self.now.code) g.S.UnitSlice.encode _ _ _ _ _ _ _ are c.requires.some c.requires.nothing decided).scalars

pub returns-then-not-write_item : goal.returns-then-not-write_item
returns-then-not-write_item g c = record {
  goes = goes_none _ _ _ _ _ _ _ _ _ _ (reads_none _ _ _ _) (c.if-not-write_item.ensures.full refl);
  ends = (c.if-not-write_item.ensures.room refl, omega (arith, c.requires.some));
  nothing = λ e. cc;
  same_code = refl;
}

pub returns : goal.returns
returns g c =
    let are : AreBytes c.args.src.now = All-from_get_or (λ b. b < 256) c.args.src.now 0 (λ i h. omega (arith, c.type_inv.src i)) in
    let decided = rw c.first_four-front.ensures at c.in-Unit.ensures in
    let laws = g.met.C.Code.laws c.args.self.now.code in
    record {
      goes = written_here _ laws _ _ _ _ _ _ _ _ are c.requires.some c.requires.nothing decided _ _ _ c.from-2.ensures
          c.in_default-item.not-Malformed (c.if-not-write_item.ensures.written refl) (c.if-not-write_item.ensures.fits refl);
      ends = shorter_here _ laws g.S.UnitSlice.encode _ _ _ _ _ _ _ are c.requires.some c.requires.nothing decided _ c.from-2.ensures;
      nothing = λ e. c.requires.nothing;
      same_code = refl;
    }
