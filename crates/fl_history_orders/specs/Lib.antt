pub mod Orders
pub mod Laws
