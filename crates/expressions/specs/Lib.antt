-- The definitions that the contracts cite.
pub mod Answers
pub mod Cuts
pub mod Grammar
pub mod Layout
pub mod Masks
pub mod Meaning
pub mod Moves
pub mod Open
pub mod States
pub mod Verdict
