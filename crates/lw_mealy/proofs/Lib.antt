pub mod RenumberLemmas
pub mod RowLemmas
pub mod WordLemmas
