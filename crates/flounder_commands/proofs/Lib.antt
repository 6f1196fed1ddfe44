pub mod FileEffects
mod Doing
mod Heading
mod Scanning
