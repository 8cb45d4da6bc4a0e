-- The driver's sequence of frames and readings, and what the theorems on it speak of.
pub mod Sequence
pub mod Ready
pub mod Counts
pub mod Endings
