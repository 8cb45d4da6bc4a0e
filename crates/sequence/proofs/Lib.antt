-- Laws and theorems on what the driver sends: how many polls a wait makes, that every frame is executed, what a page and a run leave, what each
-- ending means.
pub mod Playing
pub mod Ready
pub mod Waits
pub mod Joined
pub mod Parts
pub mod Seen
pub mod Runs
pub mod Ways
pub mod Executed
pub mod Accepted
pub mod Writing
pub mod Polls
pub mod Stored
pub mod Leaves
pub mod Results
