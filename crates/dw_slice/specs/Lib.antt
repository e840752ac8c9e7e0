pub mod Columns
pub mod Grid
pub mod Slices
pub mod Packed
pub mod Marks
pub mod Chunks
pub mod Building
