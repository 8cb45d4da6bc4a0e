-- The chip's rules that speak of no record, as document 01 condenses the data sheet: a row for the part, the
-- instructions, the verdict.
pub mod Part
pub mod Refusals
pub mod Instructions
pub mod Status
pub mod Protect
pub mod Verdicts
pub mod Output
