pub mod LineLemmas
pub mod Fronts
pub mod Comments
pub mod Summaries
pub mod SkippedTraces
pub mod Listings
pub mod FaultPlaces
pub mod NearFaults
pub mod OneWay
mod Examples
pub mod Numerals
pub mod Rows
pub mod ReaderSteps
pub mod ArgumentLaws
