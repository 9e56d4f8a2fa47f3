pub mod Bitlaws
pub mod Flips
pub mod Joins
pub mod Ascending
