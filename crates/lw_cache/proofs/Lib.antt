pub mod AnswerLemmas
mod ClaimLemmas
pub mod ClashLemmas
pub mod CrowdLemmas
mod ExtendLemmas
mod FirstLemmas
pub mod GainLemmas
pub mod GrowLemmas
mod HeldLemmas
mod KeepLemmas
pub mod KnownLemmas
mod LookLemmas
mod MoreLemmas
mod OrderLemmas
pub mod PlainLemmas
pub mod ReadLemmas
mod ReckonLemmas
mod ReclaimLemmas
mod RoomLemmas
mod RootLemmas
mod ScanLemmas
mod SeenLemmas
pub mod SettlingLemmas
mod ShapeLemmas
pub mod StoredLemmas
mod ToldLemmas
mod TrieLemmas
mod UpLemmas
mod WalkLemmas
mod WholeLemmas
