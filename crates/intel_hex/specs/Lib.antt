-- Images as Intel HEX: the text of some records; what a text says; what export and import answer and leave.
pub mod Writing
pub mod Reading
pub mod Numbers
pub mod Answers
