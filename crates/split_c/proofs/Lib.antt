-- That each export allows one result.
pub mod Ones
