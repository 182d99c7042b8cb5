-- The lemmas, by subject.
pub mod Years
pub mod Survival
pub mod Laws
pub mod Replays
