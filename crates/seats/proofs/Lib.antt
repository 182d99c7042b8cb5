-- The lemmas about seats.
pub mod Anys
pub mod Products
