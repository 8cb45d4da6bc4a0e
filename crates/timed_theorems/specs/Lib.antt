-- What the theorems on frames with readings inside speak of, beside the definitions of timed_frames.
pub mod Acts
