pub mod Loading
pub mod Moving
