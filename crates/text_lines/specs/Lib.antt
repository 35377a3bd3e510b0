pub mod Lines
pub mod Content
pub mod Numbers
pub mod Square
pub mod Readings
pub mod Fractions
pub mod Spelling
pub mod Skipped
