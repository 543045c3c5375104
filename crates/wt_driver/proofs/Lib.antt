pub mod Beginning
pub mod BiChannelLaws
pub mod Counted
pub mod Openings
pub mod Parts
pub mod SharedResultLaws
pub mod Steps
