pub mod Middle
pub mod Size
