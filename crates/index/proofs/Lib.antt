pub mod Lasts
pub mod Finds
pub mod Chained
