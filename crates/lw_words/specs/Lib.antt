pub mod Cause
pub mod First
pub mod Keeping
pub mod Name
pub mod Renumbering
pub mod Word
pub mod bodies
