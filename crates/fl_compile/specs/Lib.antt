-- The public promises rest on these: the compiler's code, programs, and what the code does.
pub mod Compiled
pub mod Codes
pub mod Programs
pub mod Laws
pub mod PackedLaws
-- Working files: what the compiler's own functions say of arguments.
pub mod Arguments
pub mod Standings
