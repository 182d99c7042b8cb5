-- The definitions that the contracts cite.
pub mod Discounts
pub mod Values
pub mod Rates
