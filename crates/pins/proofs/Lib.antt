-- The facts that the functions' proofs share, and that two results are equal. The theorems on the pin model are in
-- `pins_theorems`.
pub mod Answering
pub mod Stills
pub mod Turns
pub mod Ones
pub mod Kept
