-- What a whole frame does, from the table of instructions and the section "Frames" of document 01, and what a list of
-- frames and readings does. Nothing here follows pins.
pub mod After
pub mod Answers
pub mod Play
pub mod Sent
