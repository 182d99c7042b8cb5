-- The definitions that the contracts cite.
pub mod Carried
pub mod Clauses
pub mod Reads
pub mod Shares
