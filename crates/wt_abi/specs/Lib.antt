pub mod Actions
pub mod Connecting
pub mod Heads
pub mod Kinds
pub mod Numbers
pub mod Replies
pub mod Texts
pub mod Turns
