pub mod Difference
pub mod Fault
pub mod Machine
pub mod Origin
pub mod CellHalf
pub mod Renumbering
pub mod Worked
