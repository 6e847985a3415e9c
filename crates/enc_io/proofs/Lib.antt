pub mod BoundLemmas
pub mod ChoiceLemmas
pub mod JoinedLemmas
pub mod Moves
pub mod PeekerLemmas
pub mod PieceLemmas
pub mod ReaderLemmas
