-- Theorems on texts, and the facts that the functions' proofs share.
pub mod Cases
pub mod LineCases
pub mod Plays
pub mod Chunking
pub mod Choosing
pub mod Said
pub mod Whole
pub mod Cut
pub mod Elevens
pub mod Ones
