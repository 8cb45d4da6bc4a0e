-- Theorems on a line, and the facts that the functions' proofs share.
pub mod Hand
pub mod Runs
pub mod Ones
pub mod WholeLine
