pub mod TapesTaken
pub mod FragBytes
