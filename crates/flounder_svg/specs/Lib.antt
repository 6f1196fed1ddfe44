-- The public promise rests on Xml, on the names in Names, and on what is said in Shown of texts.
pub mod Names
pub mod Xml
pub mod Shown
