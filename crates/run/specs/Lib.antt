pub mod Answers
pub mod Run
pub mod Laws
