pub mod Lines
pub mod RowValues
pub mod ReadBack
