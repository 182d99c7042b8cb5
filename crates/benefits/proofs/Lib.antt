-- The lemmas, by subject.
pub mod Owning
pub mod Parting
pub mod Saying
pub mod Verdicts
