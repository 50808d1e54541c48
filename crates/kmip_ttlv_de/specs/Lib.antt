pub mod FieldTags
pub mod ReadRows
pub mod Settings
pub mod StreamMessages
