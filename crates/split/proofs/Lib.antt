-- Theorems on the split, case g, and the facts that the functions' proofs share.
pub mod Edges
pub mod Parts
pub mod Numbers
pub mod Few
pub mod Whole
pub mod AtParts
pub mod Cases
pub mod Ones
