pub mod Growth
pub mod ShortForms
