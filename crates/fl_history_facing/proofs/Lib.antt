pub mod Acted
pub mod Along
pub mod Sides
pub mod Truth
pub mod Carrying
pub mod Moment
pub mod Happening
