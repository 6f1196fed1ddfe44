-- The public promise rests on these, and on `flounder_svg`'s definition of a document.
pub mod Lines
pub mod Faults
