-- The definitions that the contracts cite.
pub mod History
pub mod Survival
pub mod Law
