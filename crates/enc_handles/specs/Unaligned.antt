-- The code units of a list of bytes that may lie at any place.
use Rattle.std.specs.Prelude.{Bool, List, ℕ, take}
use Rattle.enc_handles.specs.Utf16.{code_units}
use Rattle.enc_handles.specs.declared.unaligned.UnalignedU16Slice.{UnalignedU16Slice}

-- its code units, the more significant byte first where big is true
abbrev pub units_in : Bool → UnalignedU16Slice → List ℕ
units_in big slice = take slice.len (code_units big slice.bytes.now)
