pub mod Canonical
pub mod FirstAlike
pub mod Separators
pub mod WordClasses
pub mod bodies
