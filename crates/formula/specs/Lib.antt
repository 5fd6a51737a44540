-- The definitions that layer 1's contracts cite; tokens and positions are in `scanner`. What a reader must believe: Bounds, Word, Refusal, Prefix, Tables,
-- Decode, Held (tables), Text, Free (reading), Decimal, Write, Clear, Words, RoundTrip. For inner contracts: Store, Write/Stream, Free/Complete, and the stages of
-- reading in Text/{Header,Sets,Clauses,Fill}.
pub mod Bounds
pub mod Word
pub mod Refusal
pub mod Tables
pub mod Prefix
pub mod Decode
pub mod Clear
pub mod Words
pub mod Decimal
pub mod Store
pub mod Write
pub mod Free
pub mod Held
pub mod Text
pub mod RoundTrip
