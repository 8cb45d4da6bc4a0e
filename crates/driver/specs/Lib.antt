-- The driver of document 01: what a wait hands back, and what it answers. What it sends is defined in `sequence`.
pub mod Told
pub mod Answers
