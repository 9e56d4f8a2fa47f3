pub mod Both
pub mod Changes
pub mod Places
