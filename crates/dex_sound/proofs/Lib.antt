pub mod ExampleMarket
mod CaseExamples
mod Examples
mod ReasonExamples
mod RefusalExamples
mod SolvencyExamples
pub mod BoundLaws
pub mod CancelSound
pub mod CancelledLaws
mod UnsoundExamples
pub mod CrankLaws
pub mod CrankSound
pub mod FieldLaws
pub mod FillLaws
pub mod GivenLaws
pub mod KeepLaws
pub mod MadeLaws
pub mod MeetPlaces
pub mod MeetSides
pub mod MeetSums
pub mod OrderSound
pub mod OrderSoundFunds
pub mod OrderSoundPlaces
pub mod OrderSoundReasons
pub mod PlaceLaws
pub mod PlaceParts
pub mod StepSound
pub mod TakeSound
pub mod TraderSums
pub mod WithoutLaws
pub mod WordsSound
