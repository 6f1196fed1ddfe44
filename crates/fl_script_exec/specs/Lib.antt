-- The public promises rest on Transcript, CutShort, Handled and Standing (what is written, and what holds of every script), and on Reading,
-- Written and Counting (what `exec` reads and writes). Shown is a working file.
pub mod Transcript
pub mod CutShort
pub mod Shown
pub mod Counting
pub mod Reading
pub mod Written
pub mod Handled
pub mod Standing
