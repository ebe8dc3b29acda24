pub mod StepRuns
pub mod StepEnds
pub mod Ways
pub mod UnderWay
