-- The facts that the functions' proofs share, and that each call allows one result.
pub mod Addresses
pub mod Latching
pub mod Counting
pub mod Ones
