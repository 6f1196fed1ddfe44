pub mod Spreads
pub mod StepsPut
pub mod Stacks
pub mod Plain
pub mod TakesBack
