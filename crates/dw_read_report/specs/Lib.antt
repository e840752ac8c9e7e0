pub mod Reading
pub mod EventReading
pub mod ReportReading
pub mod Readable
pub mod Items
