pub mod BlockLemmas
pub mod CallLemmas
pub mod FieldLemmas
pub mod GatherLemmas
pub mod LineLemmas
pub mod ReadLemmas
pub mod ViewLemmas
