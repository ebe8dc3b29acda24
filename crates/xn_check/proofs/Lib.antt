pub mod Placed
pub mod Pooled
pub mod Found
pub mod WholesFound
pub mod RuleLemmas
pub mod RecordLemmas
pub mod BetweenLemmas
pub mod StandLemmas
pub mod FirstLemmas
pub mod Examining
pub mod RootLemmas
pub mod RunLemmas
pub mod JudgeLemmas
pub mod MarkLemmas
pub mod CountLemmas
pub mod FreeLemmas
pub mod Checking
mod DirectoryWays
