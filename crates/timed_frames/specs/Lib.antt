-- A frame with clock readings inside it: when they come, what each byte meets, and the public call.
pub mod Schedules
pub mod InTime
pub mod Walked
pub mod Answers
