-- The public promises rest on Registrations, with Lent for what a look-up lends, and on Faults.
pub mod Registrations
pub mod Lent
pub mod Faults
-- Working definitions.
pub mod Numbered
