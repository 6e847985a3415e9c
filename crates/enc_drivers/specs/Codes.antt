-- The units of each code.
pub mod Big5
pub mod EucJp
pub mod EucKr
pub mod Gb18030
pub mod Iso2022Jp
pub mod Pairs
pub mod Sequence
pub mod ShiftJis
pub mod SingleByte
pub mod UserDefined
pub mod Utf16
pub mod Utf8
pub mod Windows1252
