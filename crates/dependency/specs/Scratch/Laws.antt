-- What asking a row that was made answers, the flag that is read, and that clearing all but the row leaves it. Definitions: Scratch. Assumes nothing.
use Rattle.std.specs.Prelude.{ℕ, zero, suc, ◌+◌, ◌≤◌, ◌≢◌, ◌≡◌, refl, Bool, true, false, length, get_or, drop, eqb}
use Rattle.std.proofs.Math.Path.{ap, sym}
use Rattle.std.proofs.Common.{◌∙◌, arith, length-drop, length-append, take-append-drop, drop-drop, drop_at, get_or-take, get_or-drop}
use mathlib.Core.List.{List, ◌++◌, ◌∷◌, append_assoc}
use Rattle.std.proofs.Math.ListN.{take, replicate}
use Rattle.std.proofs.lemmas.List.{length-replicate, drop-append-le, take-append-le}
use Rattle.std.proofs.Math.Seq.{take_at, length-take-le}
use Rattle.bits.specs.Flags.{flags}
use Rattle.bits.specs.Flags.Laws.{flags_take, flags_drop}
use Rattle.qbf.specs.Formula.{Formula}
use Rattle.qbf.specs.Dependency.{depends}
use Rattle.formula.specs.Clear.{clear_from}
use Rattle.formula.specs.Clear.Laws.{clear_append}
use Rattle.dependency.specs.Row.{mark, row_of}
use Rattle.dependency.specs.Row.Laws.{row_byte}
use Rattle.dependency.specs.Scratch.{small_bound, row_in, RowMade}

-- Asked about a variable, a row answers whether it depends.
pub row_depends : (F : Formula) (u : ℕ) (row : List ℕ) → row ≡ row_of F u → (e : ℕ) → e ≤ 1024 → eqb (get_or row e 0) 1 ≡ depends F u e
row_depends F u row is e h = rw (is, row_byte F u e h) (marked (depends F u e))
  where
    marked : (b : Bool) → eqb (mark b) 1 ≡ b
    marked true = refl
    marked false = refl

-- The row stands in the first 640 bytes.
pub row_front : (made rest : List ℕ) → length made ≡ small_bound → row_in (made ++ rest) ≡ row_in made
unfolding row_in
row_front made rest size =
    rw (drop-append-le 256 made rest (omega arith), take-append-le 128 (drop 256 made) rest (rw (length-drop 256 made, size) (omega arith)))

-- The flag of a variable.
pub row_first : (scratch : List ℕ) → get_or (row_in scratch) 0 0 ≡ 0
unfolding row_in
row_first scratch = refl

pub row_flag : (scratch : List ℕ) (v : ℕ) → v ≢ 0 → v ≤ 1024 → get_or (row_in scratch) v 0 ≡ get_or (flags scratch) (2047 + v) 0
unfolding row_in
row_flag scratch zero n h = absurd (n refl)
row_flag scratch (suc v) n h =
    let e : 2047 + suc v ≡ 2048 + v = omega arith in
    rw (e, flags_take 128 (drop 256 scratch), flags_drop 256 scratch) (get_or-take 1024 (drop 2048 (flags scratch)) v 0 h ∙ get_or-drop 2048 (flags scratch) v 0)

-- All but the row is cleared, the front first.
module _ (F : Formula) (u : ℕ) (work front work' : List ℕ) (size : length work ≡ 640) (front-size : length (take 256 work) ≡ 256)
    (front-cleared : front ≡ clear_from 0 0 (take 256 work)) (rest-cleared : work' ≡ clear_from 0 384 (front ++ drop 256 work)) where
  row_part : List ℕ
  row_part = take 128 (drop 256 work)

  zeros : front ≡ replicate 256 0
  unfolding clear_from
  zeros = front-cleared ∙ ap (λ (n : ℕ). replicate n 0) front-size

  row_size : length row_part ≡ 128
  unfolding row_part
  row_size = length-take-le 128 (drop 256 work) (rw (length-drop 256 work, size) (omega arith))

  front_length : length (replicate {A = ℕ} 256 0) ≡ 256
  front_length = length-replicate {A = ℕ} 256 0

  kept_size : length (replicate {A = ℕ} 256 0 ++ row_part) ≡ 384
  kept_size = let a = row_size in let b = front_length in length-append (replicate {A = ℕ} 256 0) row_part ∙ omega arith

  rest_size : length (drop 384 work) ≡ 256
  rest_size = rw (length-drop 384 work, size)

  whole : front ++ drop 256 work ≡ (replicate {A = ℕ} 256 0 ++ row_part) ++ drop 384 work
  unfolding row_part
  whole =
      rw zeros
      (ap (λ (l : List ℕ). replicate {A = ℕ} 256 0 ++ l) (sym (take-append-drop 128 (drop 256 work)) ∙ ap (λ (l : List ℕ). take 128 (drop 256 work) ++ l) (drop-drop 128 256 work))
      ∙ sym (append_assoc (replicate {A = ℕ} 256 0) (take 128 (drop 256 work)) (drop 384 work)))

  left : work' ≡ (replicate {A = ℕ} 256 0 ++ row_part) ++ replicate 256 0
  left =
      rest-cleared
      ∙ ap (clear_from 0 384) whole
      ∙ sym (ap (λ (n : ℕ). clear_from 0 n ((replicate {A = ℕ} 256 0 ++ row_part) ++ drop 384 work)) kept_size)
      ∙ clear_append 0 (replicate {A = ℕ} 256 0 ++ row_part) (drop 384 work)
      ∙ ap (λ (n : ℕ). (replicate {A = ℕ} 256 0 ++ row_part) ++ replicate n 0) rest_size

  pub row_alone : 0 ∷ flags (take 128 (drop 256 work)) ≡ row_of F u → RowMade F u work'
  unfolding row_in row_part
  row_alone is =
      record {
        row = ap (λ (l : List ℕ). 0 ∷ flags (take 128 (drop 256 l))) (left ∙ append_assoc (replicate {A = ℕ} 256 0) row_part (replicate 256 0))
            ∙ rw (drop_at (replicate {A = ℕ} 256 0) (row_part ++ replicate 256 0) 256 front_length, take_at row_part (replicate {A = ℕ} 256 0) 128 row_size) is;
        front = rw (left ∙ append_assoc (replicate {A = ℕ} 256 0) row_part (replicate 256 0)) (take_at (replicate {A = ℕ} 256 0) (row_part ++ replicate 256 0) 256 front_length);
        rest = rw left (drop_at (replicate {A = ℕ} 256 0 ++ row_part) (replicate 256 0) 384 kept_size);
      }
