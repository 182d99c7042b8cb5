-- The lemmas, by subject.
pub mod Forms
pub mod SumOut
pub mod ByPatterns
pub mod Subsets
pub mod Counts
pub mod Bounds
pub mod Named
pub mod Evens
pub mod Agreement
pub mod Counting
pub mod Years
pub mod Survivors
