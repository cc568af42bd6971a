pub mod CertifyLemmas
pub mod EnoughLemmas
pub mod ExistenceVerdict
pub mod OneVerdict
pub mod SuiteLemmas
pub mod SureLemmas
pub mod Tells
pub mod WorkedLemmas
