pub mod Happening
pub mod Rising
pub mod Counting
pub mod Failing
pub mod Following
