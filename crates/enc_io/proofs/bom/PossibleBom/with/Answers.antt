use Rattle.std.proofs.Common.{rules, arith, ◌≡◌, length, ◌+◌, ◌<◌}
use Rattle.std.proofs.lemmas.List.Elements.{All-from_get_or}
use Rattle.enc_io.proofs.PeekerLemmas.{zeros_behind, bytes_put}
use Rattle.enc_io.proofs.bom.PossibleBom.with.Goals as goal

pub invariant_of-result : goal.invariant_of-result
invariant_of-result c =
    let whole : length c.args.self.bytes ≡ 3 = search rules in
    record {
      within = omega (arith, c.requires);
      zeros = zeros_behind _ c.args.part.now _ c.args.self.len (c.args.self.len + length c.args.part.now) whole (search rules) c.requires c.copy_from_slice.ensures.after c.args.self.zeros;
      are_bytes = bytes_put _ _ c.args.self.len _ c.args.self.are_bytes
          (rw c.copy_from_slice.ensures.after (All-from_get_or (λ b. b < 256) c.args.part.now 0 (λ i h. omega (arith, c.type_inv.part i))));
    }
