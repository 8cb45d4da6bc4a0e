-- A page write: what is latched, what it lays over a page, and storing it.
pub mod Latches
pub mod Words
pub mod Identification
