mod Elements
mod HomogeneousElements
mod NewElements
mod WordsTo
