mod Entries
mod PayloadLemmas
mod VersionLemmas
mod ListLemmas
mod Numbers
mod Ancestry
mod Fresh
mod Committed
mod Steps
mod Following
pub mod OpeningLemmas
