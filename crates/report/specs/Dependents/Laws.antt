-- The lines of the universals: read off rows, entry by entry. How long they are is in Dependents/Length.antt. Assumes nothing.
use Rattle.std.specs.Prelude.{ℕ, suc, ◌≤◌, ◌<◌, Bool, length, get_or, drop, leb, eqb, ℤ}
use Rattle.std.proofs.Math.Path.{◌≡◌, refl}
use Rattle.std.proofs.Math.Bool.{true, false}
use mathlib.Core.List.{List, [], ◌∷◌, ◌++◌, Memᴰ}
use Rattle.std.proofs.Common.{arith}
use Rattle.qbf.specs.Formula.{universal, Entry, entry, Prefix, Formula}
use Rattle.formula.specs.Prefix.{prefix_of, entry_count, entry_at, quantifies, Entries}
use Rattle.formula.specs.Prefix.Laws.{entries_drop, entry_member, quantifies_complete}
use Rattle.formula.specs.Refusal.{refusal, require}
use Rattle.formula.specs.Tables.{Admitted}
use Rattle.formula.specs.Text.{read, refused, reading}
use Rattle.formula.proofs.Theorems.Text.Admits.{read_admitted}
use Rattle.formula.specs.declared.refusal.Refusal.{Refusal}
use Rattle.formula.specs.declared.refusal.Reason.TheVariants.{Oversized}
use Rattle.dependency.specs.Row.{row_of}
use Rattle.dependency.specs.Scratch.Laws.{row_depends}
use Rattle.report.specs.Line.{refused_line, settled}
use Rattle.report.specs.Check.{Room}
use Rattle.report.specs.Dependents.{if_dependent, dependents, universal_line, entry_line, universal_lines, tables_text, dependency_text}
use Rattle.report.specs.Dependents.Listing.{marked, row_line}

-- What is left of the prefix, one entry at a time.
module _ (ws : List ℤ) (i : ℕ) (h : i < entry_count ws) where
  pub marked_drop :
      (row : List ℕ) (v : ℕ) (dependent : Bool) → v ≡ (entry_at ws i).variable → dependent ≡ eqb (get_or row v 0) 1
      → marked row (drop i (prefix_of ws)) ≡ if_dependent dependent v ++ marked row (drop (suc i) (prefix_of ws))
  unfolding marked
  marked_drop row v dependent e d = rw (d, e, entries_drop ws i h)

  pub universal_lines_drop :
      (F : Formula) (P : Prefix)
      → universal_lines F P (drop i (prefix_of ws)) ≡ entry_line F P (entry_at ws i) ++ universal_lines F P (drop (suc i) (prefix_of ws))
  unfolding universal_lines
  universal_lines_drop F P = rw (entries_drop ws i h)

  -- An entry read by its place is a universal's.
  pub universal_at : (u : ℕ) → entry_at ws i ≡ entry u universal → quantifies universal (prefix_of ws) u ≡ true
  universal_at u e = quantifies_complete universal (prefix_of ws) u (rw e at (entry_member ws i h))

-- The line by a row that was made is the universal's.
module _ (F : Formula) (u : ℕ) (row : List ℕ) (is : row ≡ row_of F u) where
  marked_row : (P : Prefix) → ((x : Entry) → Memᴰ x P → x.variable ≤ 1024) → marked row P ≡ dependents F u P
  unfolding marked dependents
  marked_row [] small = refl
  marked_row (x ∷ P) small =
      rw (row_depends F u row is x.variable (small x (Memᴰ.head refl)), marked_row P (λ y m. small y (Memᴰ.tail m)))

  pub row_line_is : (ws : List ℤ) → Entries ws → row_line row (prefix_of ws) u ≡ universal_line F (prefix_of ws) u
  unfolding row_line universal_line
  row_line_is ws h = rw (marked_row (prefix_of ws) (λ x m. (h.ranged x m).1))

-- What the text is, as the formula's file is settled; tables that were read are admitted.
module _ (room : Room) (file : List ℕ) where
  pub text_refused : (r : Refusal) → settled room.file file room.prefix room.clauses ≡ refused r → dependency_text room file ≡ refused_line r
  unfolding dependency_text
  text_refused r e = rw e

  module _ (p c : List ℤ) (count : ℕ) (e : settled room.file file room.prefix room.clauses ≡ read p c count) where
    pub text_read : dependency_text room file ≡ tables_text room.scratch p c
    unfolding dependency_text tables_text
    text_read = rw e

    pub settled_admitted : Admitted p c
    unfolding settled
    settled_admitted = go (leb (length file) room.file) e
      where
        go : (b : Bool) → require b (refused (refusal Oversized 0)) (reading file room.prefix room.clauses) ≡ read p c count → Admitted p c
        go true f = (read_admitted file room.prefix room.clauses p c count f).admitted
        go false f = let z : ◌≡◌ {A = ℕ} 0 1 = cc in absurd (omega arith)
