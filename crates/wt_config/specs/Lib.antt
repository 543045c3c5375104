pub mod Bind
pub mod Client
pub mod DigestText
pub mod Idle
pub mod Pin
pub mod Server
