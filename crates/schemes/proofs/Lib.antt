-- The lemmas, by subject.
pub mod Counted
pub mod Tabling
pub mod Fielding
pub mod Giving
pub mod Enrolments
