pub mod Dictionary
pub mod DictionaryParts
pub mod Runs
