pub mod Wording
pub mod Numbering
pub mod Listed
pub mod Ruling
pub mod Turning
pub mod Storing
pub mod Beginning
pub mod SplitLaws
pub mod JoinLaws
pub mod CloseLaws
pub mod Reading
mod Spreading
