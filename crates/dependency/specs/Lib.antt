-- The definitions that layer 2's contracts cite. What a reader must believe: Row, and Answer for the entry's refusals and
-- buffers. How a row is searched for and where it stands: Marks, Search, Scratch.
pub mod Row
pub mod Scratch
pub mod Answer
pub mod Marks
pub mod Search
pub mod Bits
