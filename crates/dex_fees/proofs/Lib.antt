pub mod FeeLaws
