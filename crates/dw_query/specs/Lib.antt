pub mod Binding
pub mod BindingRows
pub mod Filling
pub mod Outcomes
pub mod Stages
