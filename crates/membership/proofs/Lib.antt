mod Remainders
mod Expansions
mod Reach
mod Answering
