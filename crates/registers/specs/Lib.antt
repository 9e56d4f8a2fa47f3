pub mod Meaning
pub mod Lines
pub mod Sorteds
pub mod Journals
pub mod Theorems
