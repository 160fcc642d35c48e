pub mod Times
pub mod TheLimits
