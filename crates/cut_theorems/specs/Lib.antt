-- What the theorems on a cut speak of, beside the definitions of sequence.
pub mod Outside
