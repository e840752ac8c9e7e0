pub mod Tables
pub mod CreateReading
pub mod Reading
pub mod CreateGrammar
pub mod Grammar
pub mod Gives
