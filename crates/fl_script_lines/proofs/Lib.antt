mod WordLemmas
mod RouteLemmas
mod PieceLemmas
mod GrammarLemmas
mod PrintLemmas
mod TableLemmas
pub mod AskedLemmas
mod LineEnds
mod Feeds
pub mod ItemLemmas
mod LineLemmas
mod Alone
mod Kept
