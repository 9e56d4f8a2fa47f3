pub mod Changes
pub mod Drafts
