pub mod RequestLaws
pub mod ResponseLaws
pub mod OptionLaws
pub mod PairLaws
pub mod SettingsAgain
pub mod DatagramLaws
