-- The lemmas, by subject.
pub mod Integers
pub mod Sums
pub mod Loops
pub mod Bridge
pub mod Masks
pub mod Anys
