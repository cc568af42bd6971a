pub mod TestNames
pub mod TestTrial
