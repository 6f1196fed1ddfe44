-- What the public promise rests on: calls of packed tapes.
pub mod Unpacked
-- Working file: what the readers say of numbers and values.
pub mod Reading
