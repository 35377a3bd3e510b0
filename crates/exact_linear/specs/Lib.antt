pub mod Tables
pub mod Whole
pub mod Columns
pub mod Exchange
pub mod FirstBasis
pub mod Squares
pub mod Separation
