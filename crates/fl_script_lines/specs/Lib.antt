-- The public promises rest on Words, Commands and Grammar (which line is which command), Items (lines and blocks), Names, Asked and
-- Lines (what a line asks), Answers and Faults, and on what the code's own types stand for (Tables, Told, Views). Of Reading
-- they name the rows of commands; that the rows are the grammar's is proved.
pub mod Words
pub mod Commands
pub mod Grammar
pub mod Items
pub mod Reading
pub mod Views
pub mod Names
pub mod Asked
pub mod Answers
pub mod Tables
pub mod Faults
pub mod Told
pub mod Lines
