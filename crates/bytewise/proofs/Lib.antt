-- Each event, frame and reading of marks as words is that of marks as bytes, through the view.
pub mod View
pub mod Doing
pub mod Same
pub mod Cores
