-- The promises rest on Counter and Seats.
pub mod Counter
pub mod Seats
