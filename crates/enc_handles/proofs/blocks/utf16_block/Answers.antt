use Rattle.enc_handles.proofs.BlockLemmas.{utf16_moved}
use Rattle.enc_handles.proofs.blocks.utf16_block.Goals as goal

pub returns-clause-moved : goal.returns-clause-moved
returns-clause-moved c = utf16_moved c.args.block c.args.dst.now c.args.at c.if-contains_surrogates.ensures c.fits-block.1 c.fits-block.0 c.requires
