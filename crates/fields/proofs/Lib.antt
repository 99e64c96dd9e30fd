pub mod TellsJobs
pub mod Numbered
