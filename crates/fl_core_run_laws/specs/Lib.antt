-- The laws rest on these, in this order.
pub mod Logs
pub mod Made
pub mod Lending
pub mod Carried
pub mod Led
pub mod Flows
pub mod Agree
