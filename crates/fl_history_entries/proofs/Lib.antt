pub mod Acting
pub mod Growing
pub mod Eventful
pub mod Both
pub mod Noting
pub mod ByAnswer
pub mod Happening
