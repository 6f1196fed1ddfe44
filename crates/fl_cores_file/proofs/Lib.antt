mod Lists
mod LineLemmas
mod Comings
mod Firsts
