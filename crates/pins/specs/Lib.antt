-- The pin model, over the edges of the clock: how held is renewed, what deselect decides, what each event leaves.
pub mod Devices
pub mod Events
pub mod Ranges
pub mod Answers
