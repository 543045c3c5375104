pub mod Token
pub mod With
pub mod Answers
