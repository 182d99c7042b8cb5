-- The definitions that the contracts cite.
pub mod Anys
pub mod Patterns
pub mod Seats
