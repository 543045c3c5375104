pub mod ByNumber
pub mod Gone
pub mod Admitting
pub mod Critical
pub mod Living
pub mod Scanning
pub mod Dispatched
pub mod Feeding
