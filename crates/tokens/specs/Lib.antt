-- The definitions that the contracts cite.
pub mod Classes
pub mod Cut
pub mod Letters
pub mod Look
