pub mod NameTables
pub mod ValueNames
pub mod OwnNames
pub mod SecretTags
