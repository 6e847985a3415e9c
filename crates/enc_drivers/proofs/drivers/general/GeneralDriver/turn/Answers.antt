use Rattle.std.proofs.Common.{◌≡◌, ◌<◌, length, drop, ap, sym, refl, ◌∙◌, arith}
use Rattle.std.proofs.lemmas.List.Elements.{All-from_get_or}
use Rattle.enc_drivers.specs.Front.{front_bytes}
use Rattle.enc_drivers.specs.Units.{AreBytes}
use Rattle.enc_drivers.proofs.Turns.{found, held_rest, shorter, goes_none, goes_malformed, goes_written, put_back}
use Rattle.enc_drivers.proofs.drivers.general.GeneralDriver.turn.Goals as goal

pub returns-in_default-clause-goes : goal.returns-in_default-clause-goes
returns-in_default-clause-goes g c = goes_none _ _ _ _ _ _ _ _ _ _ c.look-step.ensures.reads refl

pub behind-rest-requires : goal.behind-rest-requires
behind-rest-requires g c =
    let are : AreBytes c.args.src.now = All-from_get_or (λ b. b < 256) c.args.src.now 0 (λ i h. omega (arith, c.type_inv.src i)) in
    let looks = rw c.in-Unit.is at c.look-step.ensures in
    let unit = found _ (g.met.C.Code.laws c.args.self.now.code) g.S.UnitSlice.encode _ _ _ _ _ _ _ _ _ are looks in
    omega (arith, c.from.ensures, unit.within)

pub invariant_of-self-in-Malformed : goal.invariant_of-self-in-Malformed
invariant_of-self-in-Malformed g c =
    let are : AreBytes c.args.src.now = All-from_get_or (λ b. b < 256) c.args.src.now 0 (λ i h. omega (arith, c.type_inv.src i)) in
    let looks = rw c.in-Unit.is at c.look-step.ensures in
    record {
      few = held_rest _ (g.met.C.Code.laws c.args.self.now.code) g.S.UnitSlice.encode _ _ _ _ _ _ _ _ _ are looks _
          (c.behind-rest.ensures ∙ ap (λ k. drop k (front_bytes c.look-step.new.front)) c.from.ensures);
    }

pub returns-in-Malformed-clause-goes : goal.returns-in-Malformed-clause-goes
returns-in-Malformed-clause-goes g c =
    let are : AreBytes c.args.src.now = All-from_get_or (λ b. b < 256) c.args.src.now 0 (λ i h. omega (arith, c.type_inv.src i)) in
    let looks = rw c.in-Unit.is at c.look-step.ensures in
    goes_malformed _ (g.met.C.Code.laws c.args.self.now.code) g.S.UnitSlice.encode _ _ _ _ _ _ _ _ _ are looks _ _ c.in-Malformed.is
    (c.behind-rest.ensures ∙ ap (λ k. drop k (front_bytes c.look-step.new.front)) c.from.ensures)

pub write_item-requires : goal.write_item-requires
write_item-requires g c =
    let are : AreBytes c.args.src.now = All-from_get_or (λ b. b < 256) c.args.src.now 0 (λ i h. omega (arith, c.type_inv.src i)) in
    let looks = rw c.in-Unit.is at c.look-step.ensures in
    (found _ (g.met.C.Code.laws c.args.self.now.code) g.S.UnitSlice.encode _ _ _ _ _ _ _ _ _ are looks).scalars

pub invariant_of-self-then-write_item : goal.invariant_of-self-then-write_item
invariant_of-self-then-write_item g c =
    let are : AreBytes c.args.src.now = All-from_get_or (λ b. b < 256) c.args.src.now 0 (λ i h. omega (arith, c.type_inv.src i)) in
    let looks = rw c.in-Unit.is at c.look-step.ensures in
    record {
      few = held_rest _ (g.met.C.Code.laws c.args.self.now.code) g.S.UnitSlice.encode _ _ _ _ _ _ _ _ _ are looks _
          (c.behind-rest.ensures ∙ ap (λ k. drop k (front_bytes c.look-step.new.front)) c.from.ensures);
    }

pub returns-then-write_item : goal.returns-then-write_item
returns-then-write_item g c =
    let are : AreBytes c.args.src.now = All-from_get_or (λ b. b < 256) c.args.src.now 0 (λ i h. omega (arith, c.type_inv.src i)) in
    let looks = rw c.in-Unit.is at c.look-step.ensures in
    let laws = g.met.C.Code.laws c.args.self.now.code in
    let rest : front_bytes c.behind-rest.result ≡ drop c.in-Unit.length (front_bytes c.look-step.new.front) =
    c.behind-rest.ensures ∙ ap (λ k. drop k (front_bytes c.look-step.new.front)) c.from.ensures in
    record {
      goes = goes_written _ laws g.S.UnitSlice.encode _ _ _ _ _ _ _ _ _ are looks _ _ _ c.in_default-item.not-Malformed rest (c.if-write_item.ensures.written refl) (c.if-write_item.ensures.fits refl);
      ends = shorter _ laws g.S.UnitSlice.encode _ _ _ _ _ _ _ _ _ are looks _ rest;
      same_code = refl;
    }

pub returns-then-len-eq4 : goal.returns-then-len-eq4
returns-then-len-eq4 g c =
    let are : AreBytes c.args.src.now = All-from_get_or (λ b. b < 256) c.args.src.now 0 (λ i h. omega (arith, c.type_inv.src i)) in
    let few : length (front_bytes c.args.self.now.held) < 4 = omega (arith, c.args.self.now.few) in
    record {
      goes = goes_none _ _ _ _ _ _ _ _ _ _
          (put_back _ _ _ _ _ _ _ c.look-step.ensures.reads are (omega arith) (sym c.len-2.ensures.count ∙ c.if-len-eq4.true) c.pop.ensures.0 c.pop.ensures.1)
          (c.if-write_item.ensures.full refl);
      ends = (c.if-write_item.ensures.room refl, omega (arith, c.pop.ensures.0, c.len-2.ensures.count, c.if-len-eq4.true));
      same_code = refl;
    }

pub returns : goal.returns
returns g c =
    let looks = rw c.in-Unit.is at c.look-step.ensures in
    record {
      goes = goes_none _ _ _ _ _ _ _ _ _ _ c.look-step.ensures.reads (c.if-write_item.ensures.full refl);
      ends = (c.if-write_item.ensures.room refl, omega (arith, looks.finds.1.some));
      same_code = refl;
    }
