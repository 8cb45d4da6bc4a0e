-- That each export allows one result, and one content of what is lent to it.
pub mod Ones
