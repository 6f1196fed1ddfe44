-- What contracts say of a replayed side, and of a run without a record.
pub mod Sides
pub mod Reasons
