pub mod Refusals
pub mod Model
pub mod Laws
pub mod Histories
