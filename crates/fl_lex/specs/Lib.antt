-- The public promises rest on Words (letters, digits and words), Token, Spelling (what bytes spell), Outcome (tokens or a first
-- fault) and Joined (tokens written again). Item is a working file: what the functions inside say of one token or gap.
pub mod Item
pub mod Joined
pub mod Outcome
pub mod Spelling
pub mod Token
pub mod Words
