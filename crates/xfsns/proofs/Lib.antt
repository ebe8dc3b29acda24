pub mod HomeLemmas
pub mod AnswerLemmas
pub mod CauseLemmas
pub mod TellLemmas
pub mod ManifestLemmas
