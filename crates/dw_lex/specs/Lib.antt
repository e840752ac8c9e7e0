pub mod Characters
pub mod Gaps
pub mod Forms
pub mod Signs
pub mod Reading
pub mod Meaning
pub mod Places
pub mod Spelling
