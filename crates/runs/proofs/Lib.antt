-- The lemmas, by subject.
pub mod Running
