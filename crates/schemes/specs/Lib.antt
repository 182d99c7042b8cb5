-- The definitions that the contracts cite.
pub mod Faults
pub mod Most
pub mod Syntax
pub mod Bases
pub mod Places
pub mod Enrolment
pub mod Counts
