-- The bytes of a frame, from the section "Frames" of document 01, and how many it may have.
pub mod Bytes
pub mod Counts
