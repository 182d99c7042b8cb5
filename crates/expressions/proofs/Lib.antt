-- The lemmas, by subject.
pub mod Bits
pub mod Names
pub mod Laws
pub mod Whole
pub mod Stacks
pub mod Packs
pub mod Moving
pub mod Along
pub mod Answering
pub mod Cutting
pub mod Sets
pub mod Owning
