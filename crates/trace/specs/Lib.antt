-- The trace text: what a line says, what a whole text puts out; and the same, a chunk at a time.
pub mod Lines
pub mod Texts
pub mod Numbers
pub mod Chunks
pub mod Pieces
pub mod Takes
