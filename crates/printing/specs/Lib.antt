-- Text in lent bytes: what a call leaves there; a number as text; and the lines of a trace's output.
pub mod Put
pub mod Digits
pub mod Printing
