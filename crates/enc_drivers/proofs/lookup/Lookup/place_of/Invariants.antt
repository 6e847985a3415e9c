use Rattle.std.proofs.Common.{◌≡◌, ◌-◌}
use Rattle.std.specs.Prelude.{find}
use Rattle.std.specs.List.{range_with_len}
use Rattle.enc_drivers.specs.Lookup.{holds, least_place}
use Rattle.enc_drivers.proofs.lookup.Lookup.place_of.Given as goal

abbrev pub invariant-loop-place : goal.invariant-loop-place
invariant-loop-place g l = find (holds (g.Self.Lookup.places l.self) l.scalar) (range_with_len l.place (l.below - l.place)) ≡ least_place (g.Self.Lookup.places l.self) l.scalar l.below
