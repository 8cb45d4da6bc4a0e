-- Theorems on images as Intel HEX.
pub mod Digits
pub mod Lines
pub mod Rewritten
pub mod Texts
pub mod Cells
pub mod Round
pub mod Twelve
pub mod Cases
