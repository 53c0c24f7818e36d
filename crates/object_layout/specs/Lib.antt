pub mod Arrays
pub mod BodyTables
pub mod Fields
pub mod FieldTables
pub mod Layouts
pub mod Objects
pub mod ObjectTables
pub mod Slots
