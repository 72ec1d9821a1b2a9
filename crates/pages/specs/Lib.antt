pub mod Lists
pub mod Links
pub mod Queue
