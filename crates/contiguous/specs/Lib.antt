pub mod Tightenings
pub mod Making
pub mod Theorems
