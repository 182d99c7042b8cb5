-- The definitions that the contracts cite.
pub mod Column
pub mod Counts
pub mod Projection
pub mod Tables
pub mod Projections
