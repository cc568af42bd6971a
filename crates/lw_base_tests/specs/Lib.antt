pub mod TestScript
