pub mod Plain
pub mod Groups
pub mod Written
pub mod Laws
