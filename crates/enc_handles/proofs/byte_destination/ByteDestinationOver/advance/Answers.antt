use Rattle.std.proofs.Common.{arith}
use Rattle.enc_handles.proofs.CharLemmas.{advanced}
use Rattle.enc_handles.proofs.byte_destination.ByteDestinationOver.advance.Goals as goal

pub returns-clause-text : goal.returns-clause-text
returns-clause-text g c =
    advanced (g.D.ByteBuffer.bytes c.args.self.now.slice) c.args.self.now.pos c.args.length _ _ (omega arith) (omega arith)
