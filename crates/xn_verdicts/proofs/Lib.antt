pub mod Rising
pub mod OneTree
pub mod OneList
pub mod OneData
pub mod OneRule
pub mod OneFork
pub mod OneParents
pub mod SortedRecords
