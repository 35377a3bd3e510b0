pub mod Weights
pub mod FirstSearch
pub mod Searched
pub mod Verdicts
pub mod FirstBasis
pub mod FirstCone
