pub mod Laws
pub mod Renaming
pub mod Sorting
