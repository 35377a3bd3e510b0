pub mod Clearing
pub mod Rays
pub mod Steps
pub mod Theorems
