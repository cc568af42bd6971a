pub mod SessionState
pub mod Runs
pub mod TableSulState
pub mod Told
pub mod System
