-- What the proofs need of a part; facts on bits, and on a frame that is executed.
pub mod Parts
pub mod Sound
pub mod Masks
pub mod Starts
pub mod Tested
pub mod Judged
pub mod Rows
pub mod Ones
