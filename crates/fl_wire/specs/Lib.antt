-- What the public promises rest on: payloads and fragments (Payload), what fragments mean (Reading), and their first fault
-- (Wrong, with Covered for what stands at a byte, Standing for the bytes of fragments, Shapes' `Agrees`, Headers' `Line`; Fault).
-- Widths, Alive, Shapes, Whole and the rest of Headers are the reader's own. Words is another name of fl_interface's definitions.
pub mod Payload
pub mod Reading
pub mod Widths
pub mod Words
pub mod Standing
pub mod Alive
pub mod Covered
pub mod Shapes
pub mod Whole
pub mod Fault
pub mod Wrong
pub mod Headers
