-- The lemmas about cases.
pub mod Judging
pub mod Sounds
pub mod Weighings
pub mod Routes
pub mod Supposed
pub mod SameCase
