-- What the theorems on HEX texts speak of, beside the definitions of `hex`.
pub mod Fitting
