pub mod Fitting
pub mod Opening
pub mod Pool
pub mod Settling
pub mod Sharing
pub mod Standing
pub mod Working
pub mod bodies
