-- Demand 3, stated: drawings of a list of frames, what a bench sees of each model, and that it sees the same.
pub mod Drawings
pub mod Reports
