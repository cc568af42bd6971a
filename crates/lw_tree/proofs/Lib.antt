mod AboveLemmas
mod ArrivalLemmas
pub mod AskedLemmas
mod LevelLemmas
mod ListedLemmas
pub mod BranchLemmas
pub mod ClassLemmas
mod ClearedLemmas
mod ClimbLemmas
pub mod CloseLemmas
pub mod FewLemmas
mod FieldLemmas
mod GrowingLemmas
pub mod GrownLemmas
mod LinkLemmas
mod ListingLemmas
mod LowerLemmas
mod LowestLemmas
pub mod MachineLemmas
mod MeasureLemmas
mod NewLemmas
pub mod NodeLemmas
mod NumberLemmas
mod PartLemmas
mod PartingLemmas
mod PlaceLemmas
mod PlantLemmas
mod RelinkLemmas
mod ReplaceLemmas
mod RoomLemmas
pub mod ShapeLemmas
mod SproutLemmas
pub mod StepLemmas
pub mod WayLemmas
