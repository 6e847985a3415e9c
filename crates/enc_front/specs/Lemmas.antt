-- Proofs that impls name, or crates above: these have to be terms over specs/.
pub mod Held
pub mod Places
