-- Public promises rest on all files: what a file's content shows, the table, and the table with its arguments' names.
pub mod Content
pub mod Named
pub mod Table
