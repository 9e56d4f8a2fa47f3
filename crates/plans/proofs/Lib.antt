pub mod Columns
pub mod Cells
pub mod Listed
pub mod Rewrites
pub mod Gathers
