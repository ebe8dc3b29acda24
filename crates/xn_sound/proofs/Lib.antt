pub mod Standing
pub mod Permuted
pub mod Moved
pub mod OneContents
pub mod Accepted
pub mod RuleNumbers
pub mod OneAnswer
