-- The promises rest on Rings, Cores, Sides and Laws, and in Rule on what a history says of a side and on the
-- kinds of step; the rest of Rule, and Seats, are the code's own.
pub mod Rings
pub mod Rule
pub mod Seats
pub mod Sides
pub mod Cores
pub mod Laws
