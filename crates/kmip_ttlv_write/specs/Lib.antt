pub mod GivenItems
pub mod FlatWrites
pub mod OpenStructures
pub mod FlatLaws
