-- 02's P1 as theorems: a refusal of a text has the line and the column of its place, every other refusal has none; and so it is printed. Of
-- P2: no text is refused as 7.
pub mod InText
pub mod Unbound
pub mod Elsewhere
pub mod Lines
