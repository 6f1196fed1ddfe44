pub mod DataLemmas
pub mod XmlLemmas
