pub mod Connections
pub mod Endpoints
pub mod Isolation
pub mod Run
