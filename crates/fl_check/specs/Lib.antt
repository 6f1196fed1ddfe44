-- The public promises rest on Known (what names stand for), Places (the rules broken at each place of a tree), Checks, Outcome
-- and Faults (an interface or the first fault), Texts, TooLong, Position and Explained; what an interface is stands in
-- fl_interface. Views and Named are working files.
pub mod Known
pub mod Places
pub mod Checks
pub mod Texts
pub mod TooLong
pub mod Faults
pub mod Views
pub mod Named
pub mod Outcome
pub mod Position
pub mod Explained
-- The public promises rest on both: what a text means (Text), and what the code's answer stands for (Texts).
pub mod Text
pub mod TextOutcome
