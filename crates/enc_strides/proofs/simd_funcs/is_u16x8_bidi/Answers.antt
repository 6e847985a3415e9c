use Rattle.enc_strides.specs.Lanes.{is_in}
use Rattle.enc_strides.proofs.MaskLemmas.{also}
use Rattle.enc_strides.proofs.simd_funcs.is_u16x8_bidi.Goals as goal

pub returns : goal.returns
returns c =
    let s = c.args.s in
    let two = also (is_in 0x590 0x900) (is_in 0xFB1D 0xFE00) s _ _ c.has_in.ensures c.has_in-2.ensures in
    let three = also _ (is_in 0xFE70 0xFEFF) s _ _ two c.has_in-3.ensures in
    let four = also _ (is_in 0xD802 0xD804) s _ _ three c.has_in-4.ensures in
    let five = also _ (is_in 0xD83A 0xD83C) s _ _ four c.has_in-5.ensures in
    let six = also _ (is_in 0x200F 0x2010) s _ _ five c.has_in-6.ensures in
    let seven = also _ (is_in 0x202B 0x202C) s _ _ six c.has_in-7.ensures in
    let eight = also _ (is_in 0x202E 0x202F) s _ _ seven c.has_in-8.ensures in
    let nine = also _ (is_in 0x2067 0x2068) s _ _ eight c.has_in-9.ensures in
    nine
