mod NumberLemmas
mod PopLemmas
mod Choosing
