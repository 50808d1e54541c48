pub mod ManyFields
