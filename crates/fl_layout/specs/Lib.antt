-- What the public promises rest on: leaves and their places (Leaves, Places), what the calls answer (Layouts), and the law
-- of the limit (Limit). Extents says how the code keeps a message; its calls' contracts cite it, the public ones don't.
pub mod Leaves
pub mod Places
pub mod Extents
pub mod Layouts
pub mod Limit
