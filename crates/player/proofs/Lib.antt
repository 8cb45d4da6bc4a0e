-- What a text starts from is what power-up gives; each call allows one result.
pub mod Starts
pub mod Ones
