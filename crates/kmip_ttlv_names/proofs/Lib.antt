pub mod Tables
pub mod Lists
pub mod Owns
pub mod SecretNames
pub mod GoodTables
pub mod ByName
