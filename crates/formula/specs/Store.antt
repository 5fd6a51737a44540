-- Bytes stored into a lent text from a place on. A store past the text's end does nothing, so a writer counts its places
-- to the end and asks for room once.
pub mod Laws
use Rattle.std.specs.Prelude.{ℕ, ◌+◌, ◌≡◌, List, length}
use Rattle.std.proofs.lemmas.List.Edits.{sets}

-- `bytes` stored from the place `at` on make `after` of `text`; `next` is the place behind them.
pub record Stores (text : List ℕ) (at : ℕ) (bytes after : List ℕ) (next : ℕ) : Type 0 where
  pub stored : after ≡ sets text at bytes
  pub reached : next ≡ at + length bytes

-- In the middle of a writing: of `bytes` to be stored from `at` on in `text`, `rest` is left to store from `here` on in `now`.
pub record Remains (text : List ℕ) (at : ℕ) (bytes now : List ℕ) (here : ℕ) (rest : List ℕ) : Type 0 where
  pub stored : sets now here rest ≡ sets text at bytes
  pub reached : here + length rest ≡ at + length bytes
