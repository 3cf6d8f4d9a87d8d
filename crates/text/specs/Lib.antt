pub mod Pieces
pub mod Lines
pub mod Words
pub mod Numbers
pub mod Hex
