-- 02's P6 as theorems: on admitted tables rows, verdicts, texts and games come out as from the old prefix.
pub mod Signed
