-- What each call for C answers, by the definitions of the public calls under it.
pub mod Calls
