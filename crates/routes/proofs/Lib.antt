-- The lemmas, by subject.
pub mod Running
pub mod Table
pub mod Bits
pub mod Deltas
pub mod BySubsets
pub mod ByNumber
pub mod ByCounts
