use Rattle.std.proofs.Common.{◌≡◌, ◌∙◌, ap, sym, arith, false}
use Rattle.std.specs.Prelude.{◌==◌}
use Rattle.std.specs.Option.{option_map_or}
use Rattle.enc_drivers.specs.Lookup.{holds}
use Rattle.enc_drivers.specs.Lemmas.LeastPlace.{from_first, from_next, equals_is}
use Rattle.enc_drivers.proofs.lookup.Lookup.place_of.Goals as goal

pub loop-place-init : goal.loop-place-init
loop-place-init g c = from_first (g.Self.Lookup.places c.args.self.now) c.args.scalar c.args.below

pub loop-place-preserved : goal.loop-place-preserved
loop-place-preserved g c =
    let other : holds (g.Self.Lookup.places c.args.self.now) c.args.scalar c.loop-place.place ≡ false =
    ap (λ o. option_map_or (λ s. s == c.args.scalar) o false) (sym c.at.ensures) ∙ sym (equals_is c.at.result c.args.scalar) ∙ sym c.eq.ensures ∙ c.if-eq.false in
    from_next (holds (g.Self.Lookup.places c.args.self.now) c.args.scalar) c.loop-place.place c.args.below (omega arith) other ∙ c.loop-place.invariant
