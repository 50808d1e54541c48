pub mod Front
pub mod RuleLemmas
pub mod NumberLemmas
mod Walks
pub mod Steps
pub mod AnyItems
pub mod AnyThere
pub mod Loops
pub mod Standing
pub mod Onward
pub mod Wholeness
pub mod Founding
pub mod Giving
pub mod ResultLemmas
pub mod Mapped
pub mod LeafLemmas
pub mod Structures
pub mod Alone
pub mod Cuts
pub mod ChosenLemmas
mod StoredRows
pub mod PartLemmas
