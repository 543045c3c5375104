pub mod CallLaws
pub mod ClosingLaws
pub mod HistoryLaws
pub mod PlaceLaws
pub mod WaitingLaws
