pub mod CountLaws
pub mod PartLaws
pub mod PaymentLaws
