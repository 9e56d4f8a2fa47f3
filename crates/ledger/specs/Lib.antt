pub mod Ledger
pub mod Calls
pub mod Copies
pub mod Laws
