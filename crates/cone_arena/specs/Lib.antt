pub mod Arena
pub mod Lends
pub mod NarrowRows
pub mod OpenTops
pub mod RowFields
pub mod Rows
pub mod ShownRows
pub mod SplitRows
