pub mod Agrees
pub mod Orderly
pub mod Stands
pub mod Members
pub mod Records
pub mod Agreement
