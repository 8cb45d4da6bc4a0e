-- What the theorems on the pin model speak of, beside its definitions.
pub mod Cells
pub mod Hands
pub mod Locks
