pub mod Examples
pub mod Candidates
pub mod Makings
pub mod Searches
pub mod Ways
pub mod Ends
pub mod OneNeighbour
