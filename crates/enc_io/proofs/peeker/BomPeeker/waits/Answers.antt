use Rattle.std.proofs.Common.{rules, arith, length, ◌≡◌}
use Rattle.std.proofs.lemmas.Bool.{ltb-false}
use Rattle.std.proofs.lemmas.List.{nil_from_length}
use borrow.Author.Tests.{ltb-true}
use Rattle.enc_io.proofs.PeekerLemmas.{waiting_count}
use Rattle.enc_io.proofs.peeker.BomPeeker.waits.Goals as goal

pub returns : goal.returns
returns g c =
    let self = c.args.self.now in
    let array : length self.bom.bytes ≡ 3 = search rules in
    let count = waiting_count self.bom.bytes self.bom.len self.place array self.bom.within in
    record {
      yes = λ e. omega (arith, count, ltb-true self.place self.bom.len e);
      no = λ e. nil_from_length _ (omega (arith, count, ltb-false self.place self.bom.len e));
    }
