-- Proofs of the laws of the codes. They stand here since an impl's law has to be a term over
-- specs/.
pub mod Big5Law
pub mod EncoderLaws
pub mod EucJpLaw
pub mod EucKrLaw
pub mod Gb18030Law
pub mod Iso2022JpLaw
pub mod LeastPlace
pub mod PaddedLaw
pub mod PairsLaw
pub mod Scalars
pub mod SequenceLaw
pub mod ShiftJisLaw
pub mod SingleByteLaw
pub mod Utf16Law
pub mod Utf8Law
