use Rattle.enc_handles.proofs.CodeUnits.{block-swapped}
use Rattle.enc_handles.proofs.unaligned.big_block.Goals as goal

pub returns : goal.returns
returns c =
    block-swapped c.args.bytes.now c.to_u16_lanes.result c.simd_byte_swap.result c.args.i c.requires c.type_inv.bytes c.to_u16_lanes.ensures c.simd_byte_swap.ensures
