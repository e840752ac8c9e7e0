pub mod Characters
pub mod Place
pub mod Statements
pub mod Comments
pub mod Schedule
pub mod Status
pub mod Texts
