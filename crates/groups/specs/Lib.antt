pub mod Lists
pub mod Orders
pub mod Plans
pub mod Theorems
