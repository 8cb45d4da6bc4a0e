-- Theorems on frames, and the facts that the functions' proofs share.
pub mod Outcomes
pub mod Polls
pub mod Disabling
pub mod Ones
pub mod Kept
pub mod Ignored
pub mod Unused
pub mod CellRule
pub mod Locks
pub mod PartKept
pub mod Addresses
pub mod Sending
