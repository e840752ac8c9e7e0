mod TableLemmas
mod CreateLemmas
pub mod StatementLemmas
