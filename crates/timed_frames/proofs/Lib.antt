-- What the proofs of the functions share on frames with readings inside; with empty lists the call is the plain one; one result.
pub mod Walks
pub mod Ran
pub mod Calm
pub mod Passed
pub mod Opened
pub mod Whole
pub mod Untimed
pub mod Ones
