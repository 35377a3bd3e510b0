pub mod Deques
pub mod Keeping
pub mod Lots
pub mod Parts
pub mod Turns
pub mod Crews
