use Rattle.std.proofs.Common.{sym}
use Rattle.enc_handles.specs.Lemmas.TextLaws.{lone_at, pair_at}
use Rattle.enc_handles.proofs.text_slice.RefSliceU16TextSlice.scalar_at.Goals as goal

pub returns-then-is_pair_at-clause-reads : goal.returns-then-is_pair_at-clause-reads
returns-then-is_pair_at-clause-reads c =
    rw c.pair_scalar.ensures.value (pair_at c.args.self.now.now c.args.at c.requires.seam (sym c.if-is_pair_at.ensures))

pub returns-else-is_pair_at-clause-reads : goal.returns-else-is_pair_at-clause-reads
returns-else-is_pair_at-clause-reads c =
    rw c.lone_scalar.ensures (lone_at c.args.self.now.now c.args.at c.requires.within c.requires.seam (sym c.if-is_pair_at.ensures))
