-- The undriven count is right, case f, the facts that the functions' proofs share, and that each call allows one result.
pub mod Padding
pub mod Showing
pub mod Lengths
pub mod Driven
pub mod Cases
pub mod Ones
