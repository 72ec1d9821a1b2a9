pub mod Ring
pub mod Clock
pub mod RingLaws
