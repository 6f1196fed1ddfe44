-- The public promises rest on Tree, Grammar (which tokens are written for which tree), Outcome (a tree or a fault), Printed (the
-- text of a tree), Written and RoundTrip (what comes of that text). Reading and Parts are working files.
pub mod Tree
pub mod Grammar
pub mod Reading
pub mod Taken
pub mod RoundTrip
pub mod Parts
pub mod Outcome
pub mod Printed
pub mod Written
