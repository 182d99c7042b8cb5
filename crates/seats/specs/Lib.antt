-- The definitions that the contracts cite.
pub mod Seats
pub mod Taken
