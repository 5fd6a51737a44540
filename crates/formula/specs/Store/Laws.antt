-- Stores follow one another: one writing after another is the writing of both, and a writing is done piece by piece.
use Rattle.std.specs.Prelude.{ℕ, suc, ◌+◌, ◌<◌, ◌≡◌, refl, List, [], ◌∷◌, ◌++◌, length, set}
use Rattle.std.proofs.Common.{ap, sym, ◌∙◌, add-zero, arith, length-append}
use Rattle.std.proofs.lemmas.List.Edits.{sets}
use Rattle.std.proofs.Math.Seq.{length-sets}
use Rattle.formula.specs.Store.{Stores, Remains}

pub sets_append : (l : List ℕ) (i : ℕ) (xs ys : List ℕ) → sets l i (xs ++ ys) ≡ sets (sets l i xs) (i + length xs) ys
sets_append l i [] ys = rw (add-zero i)
sets_append l i (x ∷ xs) ys =
    let e : suc i + length xs ≡ i + suc (length xs) = omega arith in
    sets_append (set l i x) (suc i) xs ys ∙ ap (λ k. sets (sets (set l i x) (suc i) xs) k ys) e

-- Nothing is stored.
pub stores_none : (text : List ℕ) (at : ℕ) → Stores text at [] text at
stores_none text at = record { stored = refl; reached = omega arith }

-- One writing, then another.
pub stores_append : {text middle after : List ℕ} {at here next : ℕ} {xs ys : List ℕ}
    → Stores text at xs middle here → Stores middle here ys after next → Stores text at (xs ++ ys) after next
stores_append {text} {middle} {after} {at} {here} {next} {xs} {ys} f g =
    record {
      stored = rw (g.stored, f.stored, f.reached) (sym (sets_append text at xs ys));
      reached = simp length-append (omega (arith, f.reached, g.reached));
    }

-- Nothing is stored yet.
pub remains_all : (text : List ℕ) (at : ℕ) (bytes : List ℕ) → Remains text at bytes text at bytes
remains_all text at bytes = record { stored = refl; reached = refl }

-- A piece is stored.
pub remains_less : {text middle after : List ℕ} {at here next : ℕ} {bytes piece : List ℕ} (rest : List ℕ)
    → Remains text at bytes middle here (piece ++ rest) → Stores middle here piece after next → Remains text at bytes after next rest
remains_less {text} {middle} {after} {at} {here} {next} {bytes} {piece} rest f g =
    record {
      stored = rw (g.stored, g.reached) (sym (sets_append middle here piece rest) ∙ f.stored);
      reached = omega (arith, g.reached, simp length-append at f.reached);
    }

-- The last piece is stored.
pub remains_last : {text middle after : List ℕ} {at here next : ℕ} {bytes piece : List ℕ}
    → Remains text at bytes middle here piece → Stores middle here piece after next → Stores text at bytes after next
remains_last f g = record { stored = g.stored ∙ f.stored; reached = g.reached ∙ f.reached }

-- All is stored.
pub remains_none : {text after : List ℕ} {at next : ℕ} {bytes : List ℕ} → Remains text at bytes after next [] → Stores text at bytes after next
remains_none f = remains_last f (stores_none _ _)

-- What is left keeps the text's length.
pub remains_length : {text now : List ℕ} {at here : ℕ} {bytes rest : List ℕ} → Remains text at bytes now here rest → length now ≡ length text
remains_length {text} {now} {at} {here} {bytes} {rest} f = sym (length-sets now here rest) ∙ ap length f.stored ∙ length-sets text at bytes

-- A place that leaves all of a writing below a bound leaves its first piece so, and what remains after any piece.
module _ {k : ℕ} where
  pub below_first : (at : ℕ) (xs ys : List ℕ) → at + length (xs ++ ys) < k → at + length xs < k
  below_first at xs ys h = omega (arith, simp length-append at h)

  pub below_rest : {text after : List ℕ} {at next : ℕ} {xs : List ℕ} (ys : List ℕ) → at + length (xs ++ ys) < k → Stores text at xs after next → next + length ys < k
  below_rest ys h f = omega (arith, f.reached, simp length-append at h)

  pub below_remains : {text now : List ℕ} {at here : ℕ} {bytes rest : List ℕ} → at + length bytes < k → Remains text at bytes now here rest → here + length rest < k
  below_remains h f = omega (arith, f.reached)
