pub mod Decides
pub mod EqualActions
pub mod EqualAnswers
pub mod EqualCalls
pub mod EqualParts
pub mod EqualReplies
pub mod EqualTurns
pub mod PeerStreams
