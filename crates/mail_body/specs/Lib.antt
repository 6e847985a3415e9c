pub mod Base64
pub mod HeldLetters
pub mod HeldLine
pub mod Quoted
pub mod Transfer
pub mod TransferDecoder
