-- Theorems on a supply cut in a driver's run: what holds of the memory's cells after any prefix of what the run sends, and the same write sent again.
pub mod Latched
pub mod Aimed
pub mod Prefix
pub mod Resent
