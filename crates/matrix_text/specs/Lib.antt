pub mod Spelling
pub mod RationalMatrix
pub mod Matrix
pub mod Rows
pub mod Canonical
pub mod Clearing
pub mod Quotients
pub mod Refusals
