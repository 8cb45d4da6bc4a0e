-- The laws of the number of blank cells; one result for each call.
pub mod Blanking
pub mod Ones
