pub mod Find
pub mod Chains
pub mod Held
