pub mod Batches
pub mod Compares
pub mod Fills
pub mod Founds
pub mod Judged
pub mod Made
pub mod Runs
pub mod Turns
