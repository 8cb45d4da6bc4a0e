-- The rules of the record that both models hold, as document 01 condenses the data sheet. Both models, the driver and
-- the player stand on these.
pub mod Lents
pub mod Records
pub mod Ranges
pub mod Questions
pub mod Touched
pub mod Effects
pub mod Blanks
pub mod Time
pub mod Power
pub mod Cells
