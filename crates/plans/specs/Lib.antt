pub mod Meaning
pub mod Pairs
pub mod Tables
pub mod Lents
