use Rattle.enc_handles.proofs.BlockLemmas.{utf8_moved}
use Rattle.enc_handles.proofs.blocks.utf8_block.Goals as goal

pub returns-clause-moved : goal.returns-clause-moved
returns-clause-moved c =
    utf8_moved c.args.block c.args.dst.now c.utf16_to_utf8_block.new.dst c.args.at c.utf16_to_utf8_block.result c.if-contains_surrogates.ensures c.fits-block.1 c.fits-block.0
    c.requires c.utf16_to_utf8_block.ensures.bound c.utf16_to_utf8_block.ensures.written c.utf16_to_utf8_block.ensures.len
