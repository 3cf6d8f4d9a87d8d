pub mod Heights
pub mod Walks
