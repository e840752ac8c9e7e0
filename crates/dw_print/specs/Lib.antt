pub mod Fields
pub mod Rows
pub mod Answers
pub mod Tables
pub mod Events
pub mod Report
pub mod Checked
pub mod Typed
