use Rattle.enc_front.proofs.IndexLemmas.{put_at}
use Rattle.enc_front.proofs.index.Cells.put.Goals as goal

pub returns-clause-put : goal.returns-clause-put
returns-clause-put c other =
    put_at c.args.self.now.cells.items c.args.place c.args.scalar other c.requires.within
    c.requires.scalar
