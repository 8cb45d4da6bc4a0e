-- A list of events: what an edge moves, a stretch, the list from its front, and that two results are equal.
pub mod Answering
pub mod Playing
pub mod InPlace
pub mod Moves
pub mod Ones
