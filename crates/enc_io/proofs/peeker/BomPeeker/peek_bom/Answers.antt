use Rattle.enc_io.specs.Marks.{bom_bytes}
use Rattle.enc_io.proofs.PeekerLemmas.{moves_nothing, gathered_few, taken_nothing}
use Rattle.enc_io.proofs.peeker.BomPeeker.peek_bom.Goals as goal

pub returns-then-self-clause-moves : goal.returns-then-self-clause-moves
returns-then-self-clause-moves g c =
    let bom = c.args.self.now.bom in
    moves_nothing _ _ (gathered_few bom.bytes bom.len bom.within)

pub returns-then-self-clause-taken : goal.returns-then-self-clause-taken
returns-then-self-clause-taken g c = taken_nothing _ (bom_bytes c.args.self.now.bom)
