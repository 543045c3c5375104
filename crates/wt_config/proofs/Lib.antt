pub mod DigestLaws
pub mod DigestReading
mod DigestRows
pub mod DigestWriting
pub mod DottedLaws
pub mod PinLemmas
mod PinRows
