pub mod Boards
pub mod Each
pub mod Lists
pub mod Moving
pub mod RanOver
pub mod Sending
pub mod Taking
