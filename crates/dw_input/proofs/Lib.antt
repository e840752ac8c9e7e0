pub mod Refusals
pub mod Reading
pub mod FilesHad
pub mod Causes
pub mod Short
pub mod ScriptsRead
pub mod NoVacuum
