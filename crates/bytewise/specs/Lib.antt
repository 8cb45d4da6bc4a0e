-- A latch in any form, what each event does to it, and the form with a byte for each mark.
pub mod Forms
pub mod Deeds
pub mod Bytewise
