pub mod BiChannel
pub mod Frames
pub mod Opening
pub mod Poll
pub mod SharedResult
