-- A reported run is a run of the machine (Machine). What that is made of: its cores as one world as they begin
-- (Begin), and any order of what they do as a run of the machine, with openings in the order of their numbers (Whole)
-- or in whatever order, under a renaming (AnyOrder). What holds of such runs (Holds), with one core (One), and what
-- turns want memory for (Wants).
pub mod Begin
pub mod Whole
pub mod AnyOrder
pub mod Machine
pub mod Holds
pub mod One
pub mod Wants
