-- What the public promises rest on: calls as text.
pub mod CallText
pub mod Fault
pub mod Resolve
pub mod Printed
