-- A supply cut: what the bench chooses, and what it leaves.
pub mod Cuts
