-- Events as numbers: which numbers stand for one, and the number that stands for an event.
pub mod Events
