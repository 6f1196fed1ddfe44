-- Public promises rest on all of these files but `Parts`, `Scan` and `ScanView`: what commands do with files and streams, the
-- lines that tell of refusals, and the statuses.
pub mod Commands
pub mod FileEffects
pub mod Headers
pub mod Parts
pub mod Refusals
pub mod Scan
pub mod ScanView
pub mod Status
pub mod Streams
