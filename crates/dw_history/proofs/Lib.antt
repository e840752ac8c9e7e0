pub mod Fronts
pub mod Seats
pub mod Moves
pub mod Closing
pub mod Turning
