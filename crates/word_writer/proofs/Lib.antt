pub mod Fitting
pub mod WordStarts
pub mod Cutting
pub mod Utf8Text
pub mod CharsetText
pub mod Letters
pub mod ReadBack
pub mod Lines
