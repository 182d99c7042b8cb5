-- The definitions that the contracts cite.
pub mod Book
pub mod Views
pub mod Weighing
pub mod Routing
