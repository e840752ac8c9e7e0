pub mod KindGrammar
pub mod KindReading
pub mod Kinds
pub mod Literals
pub mod PieceReading
pub mod Pieces
pub mod Words
