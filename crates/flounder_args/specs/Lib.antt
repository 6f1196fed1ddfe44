-- Public promises rest on this file: what words ask for.
pub mod Words
