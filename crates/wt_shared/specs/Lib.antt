pub mod Calls
pub mod Closing
pub mod History
pub mod SharedRun
pub mod Stored
pub mod Waiting
