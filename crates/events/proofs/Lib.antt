-- Numbers and events stand for one another; the facts that the functions' proofs share; and that each call allows one
-- result.
pub mod Numbers
pub mod Ones
