pub mod MeetingSteps
pub mod PendingLaws
pub mod SideMeetings
