-- A right number stays right, and a wrong one changes no other answer.
pub mod Right
pub mod BlindFrames
pub mod BlindTimed
pub mod BlindRuns
pub mod BlindPins
pub mod BlindDevices
pub mod BlindTexts
pub mod BlindC
