pub mod Recipes
pub mod Order
pub mod Terms
