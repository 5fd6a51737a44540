-- The definitions that the contracts of the proof file cite, and the theorem that exactly the files laid out so are read.
pub mod File
