pub mod Columns
pub mod Lines
pub mod Rewrites
pub mod Runs
pub mod Suffices
