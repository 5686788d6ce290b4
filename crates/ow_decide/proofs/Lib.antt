pub mod AskLaws
pub mod Results
pub mod MadeLaws
pub mod OpenLaws
pub mod SoundLaws
pub mod CalleeLaws
pub mod DrivenLaws
pub mod ShotLaws
pub mod AcceptLaws
pub mod DeployLaws
pub mod OfficeLaws
pub mod ChainLaws
pub mod ArchiveLaws
pub mod NotedLaws
pub mod LimitLaws
pub mod OwedLaws
pub mod CloseLaws
pub mod KeptLaws
mod StoredLaws
mod OwnLaws
mod PutAllLaws
mod GatherLaws
mod WholeLaws
pub mod Finished
mod OnceLaws
mod RouteLaws
mod WebLaws
mod ViewLaws
mod WaitLaws
mod FloorLaws
mod SweepLaws
mod CallLaws
mod PlanLaws
mod FireLaws
mod RuleLaws
mod PutLaws
mod SetLaws
mod LeaveLaws
pub mod RowLaws
