pub mod Draws
pub mod SampleSums
