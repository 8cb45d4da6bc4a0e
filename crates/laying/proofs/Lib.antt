-- The laws of laying one page write over another; the call's number; one result for each call.
pub mod Laying
pub mod Answering
pub mod Ones
