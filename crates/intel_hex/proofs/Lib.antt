-- Theorems on HEX texts, and the facts that the functions' proofs share.
pub mod Sums
pub mod Fronts
pub mod Digits
pub mod Same
pub mod Refusing
pub mod Parting
pub mod Writes
pub mod Lays
pub mod Ones
