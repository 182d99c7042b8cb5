-- The lemmas, by subject.
pub mod Naming
pub mod Runs
