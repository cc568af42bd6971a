-- What the contracts of private functions cite, and no public clause.
pub mod AnswersParts
pub mod Found
pub mod MachineParts
pub mod SetupParts
pub mod Told
pub mod Tokens
