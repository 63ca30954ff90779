mod Filled
mod TableLemmas
mod Taken
mod ReadLemmas
mod TableFacts
mod ReadUsage
