mod Accepted
pub mod Appending
pub mod LineWords
pub mod Whole
pub mod FewCalls
pub mod ScriptReads
pub mod Playable
pub mod ReadBack
pub mod BankReadBack
pub mod MapReadBack
pub mod QueueReadBack
pub mod LeaseReadBack
pub mod EachKind
pub mod PrintedStates
pub mod EraTexts
mod KindList
pub mod Keeping
mod LineFronts
pub mod Determined
pub mod SameBytes
