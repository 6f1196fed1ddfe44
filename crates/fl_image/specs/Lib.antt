-- Public promises rest on Image (what an image is), Reading (reading it, and the first fault), Outcome (what `read_image` answers)
-- and Laws; Views and Limits serve the code alone.
pub mod Image
pub mod Reading
pub mod Views
pub mod Limits
pub mod Outcome
pub mod Laws
