pub mod Cuts
pub mod Wording
pub mod Reading
pub mod Table
pub mod Counts
