-- A line of the trace text, a byte at a time.
pub mod Reading
