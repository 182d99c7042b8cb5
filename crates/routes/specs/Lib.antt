-- The definitions that the contracts cite.
pub mod Routes
pub mod Words
