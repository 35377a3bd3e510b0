pub mod Program
pub mod Rule
pub mod Placement
pub mod Weights
pub mod OfVectors
pub mod Simplex
pub mod Ruled
pub mod Theorems
