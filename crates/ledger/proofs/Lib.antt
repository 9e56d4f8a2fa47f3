pub mod Turns
pub mod Refusals
pub mod Bookings
pub mod Follows
