pub mod ChunkLemmas
pub mod EachLemmas
pub mod FrontLemmas
pub mod LetterLemmas
pub mod MiddleLemmas
pub mod NumberLemmas
pub mod SizeLemmas
