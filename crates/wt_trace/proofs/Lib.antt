pub mod OutsideLaws
pub mod GenerateLaws
pub mod SummaryLaws
pub mod CommandLaws
