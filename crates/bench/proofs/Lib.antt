-- That each call for C allows one result, that nothing of an answer is lost on its way, and that a timed frame with no
-- readings is the plain one.
pub mod Ones
pub mod Kept
pub mod Untimed
