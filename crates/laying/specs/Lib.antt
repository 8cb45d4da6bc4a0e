-- One page write laid over another.
pub mod Laying
