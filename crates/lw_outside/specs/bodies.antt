-- What the contracts of private functions cite, and no public clause.
pub mod Cast
pub mod Child
pub mod Link
pub mod Spawner
