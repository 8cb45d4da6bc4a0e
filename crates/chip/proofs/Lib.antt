-- Theorems on the record's rules, and the facts that the functions' proofs share.
pub mod Readings
pub mod Within
pub mod Passing
pub mod Recounts
pub mod Locking
pub mod Plain
pub mod Awaiting
pub mod Cases
pub mod Touching
pub mod Ones
pub mod Numbers
pub mod Lowest
pub mod Executed
pub mod Kept
