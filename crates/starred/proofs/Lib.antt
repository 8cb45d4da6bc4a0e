-- The starred cases, and lists of frames computed whole, which both models show.
pub mod Fresh
pub mod Shown
pub mod Starred
