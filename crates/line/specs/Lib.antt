pub mod Line
pub mod LineLaws
