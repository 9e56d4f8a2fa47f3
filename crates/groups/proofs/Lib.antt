pub mod Batches
pub mod Closures
pub mod Listings
pub mod Minus
pub mod Orders
pub mod Sides
pub mod Turns
pub mod Wholes
