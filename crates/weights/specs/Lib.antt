-- The definitions that the contracts cite.
pub mod Exposures
pub mod Patterns
pub mod Weights
pub mod Differences
pub mod Numbers
pub mod Routes
pub mod AllSeats
