pub mod Bookings
pub mod Law
pub mod Of
pub mod Seen
pub mod Steps
