-- Demand 3's proof, and that its drawings exist.
pub mod Facts
pub mod Ticks
pub mod Waves
pub mod Steps
pub mod Bytes
pub mod Planned
pub mod Scheduled
pub mod Seen
pub mod Pages
pub mod Ends
pub mod Pad
pub mod Levels
pub mod Agree
pub mod Counted
pub mod Drawn
