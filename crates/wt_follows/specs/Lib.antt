pub mod Pieces
pub mod Roles
pub mod Rests
pub mod Tie
pub mod Answering
