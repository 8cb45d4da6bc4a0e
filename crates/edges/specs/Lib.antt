-- The frame in hand, by edges: what a counted rising edge takes of it, what an unheld falling edge shows, and its
-- ranges.
pub mod Frames
pub mod Rising
pub mod Falling
pub mod Ranges
