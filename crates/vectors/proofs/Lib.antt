pub mod Rest
pub mod Alike
pub mod Steps
pub mod Calls
pub mod AgreesAlone
