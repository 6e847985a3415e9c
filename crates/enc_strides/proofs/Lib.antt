pub mod MaskLemmas
pub mod RunLemmas
pub mod UnitLemmas
pub mod Utf8Lemmas
