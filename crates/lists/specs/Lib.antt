-- A list of events at once: what it promises, and the ways in which most events move a few numbers of the device.
pub mod Ways
pub mod Answers
pub mod Stretches
