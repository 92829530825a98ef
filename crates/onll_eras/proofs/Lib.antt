mod Asking
pub mod Beginnings
pub mod BegunFiles
pub mod EachObject
pub mod EraEndings
pub mod EraReads
pub mod EraSays
pub mod HeaderLines
pub mod HeadersAlone
pub mod NamesApart
pub mod NextEra
pub mod RestoreSays
pub mod StateKept
