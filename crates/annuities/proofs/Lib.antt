-- The lemmas, by subject.
pub mod Decimals
pub mod Discounting
pub mod Quotients
pub mod Summing
