pub mod Causes
pub mod Connects
pub mod Found
pub mod Lists
pub mod Owed
pub mod Promise
pub mod Sides
