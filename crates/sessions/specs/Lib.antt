-- The definitions that the contracts cite.
pub mod Phases
pub mod State
pub mod Machine
