-- What the theorems on the number of blank cells speak of, beside the definitions of `chip`.
pub mod Blind
