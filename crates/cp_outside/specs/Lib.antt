pub mod Faults
pub mod Reads
pub mod Puts
pub mod FailedNames
pub mod MemFiles
pub mod Recordings
