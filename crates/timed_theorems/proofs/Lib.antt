-- Theorems on frames with readings inside, on any list of them and on the public call.
pub mod Ended
pub mod Keeping
pub mod Kept
pub mod CellRule
pub mod Locks
