pub mod Shifts
pub mod SetLaws
pub mod Ups
pub mod Places
pub mod Members
pub mod Alls
