-- The facts that the functions' proofs share, and that two results are equal. What is known of the frames that are sent
-- is in `sequence`, the theorems on the answers of runs in `driver_theorems`.
pub mod Left
pub mod Told
pub mod Ended
pub mod Drives
pub mod Outcomes
pub mod Ones
