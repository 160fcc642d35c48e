mod CancelLaws
mod WordLaws
