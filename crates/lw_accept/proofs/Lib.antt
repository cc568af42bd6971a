pub mod NameLemmas
pub mod OneFault
pub mod RoundTrip
pub mod TakenLemmas
pub mod TargetLemmas
pub mod TellLemmas
pub mod UnviewLemmas
pub mod ViewLemmas
