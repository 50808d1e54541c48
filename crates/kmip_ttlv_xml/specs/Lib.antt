pub mod Decimals
pub mod XmlItems
pub mod XmlReadings
pub mod GivenElements
pub mod XmlWritings
