-- The cut: as a reading that ends its cycle; what it leaves; one result for each call.
pub mod Ending
pub mod Leaves
pub mod Ones
