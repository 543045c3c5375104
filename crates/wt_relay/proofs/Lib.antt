pub mod CopyLaws
pub mod Leading
pub mod Little
pub mod Running
