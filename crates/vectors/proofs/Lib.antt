pub mod Spelling
pub mod Answering
