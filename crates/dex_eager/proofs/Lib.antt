mod CaseExamples
mod EagerExamples
mod HistoryExamples
pub mod CancelSlots
pub mod CancelSteps
pub mod CrankSteps
pub mod DelayLaws
pub mod EachStep
pub mod FillSums
pub mod FundSteps
pub mod HistorySteps
pub mod MeetSlots
pub mod OrderSteps
pub mod StepMoves
pub mod Sums
pub mod TakeSteps
pub mod WorthLists
