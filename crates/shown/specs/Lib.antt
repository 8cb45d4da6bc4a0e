-- What stands on Q over a whole frame, from the section "Frames" of document 01. Nothing here follows pins.
pub mod Shown
pub mod Lengths
