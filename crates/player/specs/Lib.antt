-- The player of a trace text: what it starts from, and its ranges.
pub mod Players
