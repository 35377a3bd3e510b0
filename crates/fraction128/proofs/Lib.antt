pub mod Operations
pub mod Products
pub mod Sums
pub mod Orders
pub mod TermLists
