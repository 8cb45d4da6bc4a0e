-- Each call allows one result.
pub mod Nexts
pub mod Ones
