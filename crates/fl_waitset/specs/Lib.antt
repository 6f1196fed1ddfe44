-- The public promises rest on all three.
pub use Rattle.fl_lists.specs.ThreeLists
pub mod Waiting
pub mod Faults
