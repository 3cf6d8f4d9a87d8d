pub mod Answers
pub mod Pieces
