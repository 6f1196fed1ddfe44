-- Public promises rest on these files: what `chart`, `cores` and whole runs do.
pub mod Charts
pub mod Commands
