-- What a stored page write leaves in each cell; latches inside their ranges; both word by word.
pub mod Nexts
pub mod Stores
pub mod Fitting
pub mod WordRanges
pub mod WordStores
pub mod Runs
pub mod Made
pub mod Counted
pub mod Ones
