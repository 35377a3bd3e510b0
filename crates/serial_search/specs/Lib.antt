pub mod Turns
pub mod Found
pub mod Values
pub mod Walks
pub mod Searching
pub mod OpenTurns
