-- The number of blank cells of a memory.
pub mod Blanks
