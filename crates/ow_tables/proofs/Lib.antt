pub mod RowLaws
pub mod RegionLaws
pub mod Found
pub mod InsideLaws
pub mod PutLaws
pub mod BuiltinLaws
pub mod TrailLaws
pub mod LoopLaws
