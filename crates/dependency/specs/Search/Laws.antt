-- A search that has settled says which literals right of u paths reach, and no others: the theorem of layer 2's searches.
-- It joins Initial (the marks at the start), Invariant (each pass keeps what they say) and Closed (at the end nothing is
-- missed). Assumes nothing.
use Rattle.std.specs.Prelude.{ℕ, ◌≡◌, Bool, not, get_or, set, replicate, ℤ}
use Rattle.std.proofs.Common.{sym, subst}
use mathlib.Core.List.Memᴰ
use mathlib.Core.List.{List, map, Memᴰ}
use Rattle.qbf.specs.Literal.{Literal, literal}
use Rattle.qbf.specs.Formula.{Entry, after, RightOf}
use Rattle.qbf.specs.Formula.Laws.{neg_neg, after_within, right_asymmetric, existentials_member}
use Rattle.qbf.specs.Path.{Path}
use Rattle.qbf.specs.Dependency.{passable}
use Rattle.formula.specs.Word.{slot}
use Rattle.formula.specs.Prefix.{prefix_of}
use Rattle.formula.specs.Tables.{Admitted}
use Rattle.formula.proofs.Theorems.Tables.Laws.{admitted_entries, admitted_proper}
use Rattle.formula.specs.Decode.{clauses_of, clause_of, formula_of}
use Rattle.dependency.specs.Search.{open_entries, Settled, Searched}
use Rattle.dependency.specs.Search.Invariant.{Kept, passes_kept}
use Rattle.dependency.specs.Search.Closed.{Ranged, paths_reached}
use Rattle.dependency.specs.Search.Initial.{source_closed, start_kept}

module _ (p c : List ℤ) (admitted : Admitted p c) (u : ℕ) (range : Ranged u) where
  abbrev X : List ℕ
  X = passable (formula_of p c) u

  -- a variable that may be passed stands right of u, is another than u, and in range
  X_right : (v : ℕ) → Memᴰ v X → RightOf (prefix_of p) u v
  X_right v i = Memᴰ.map (λ (x : Entry). x.variable) (existentials_member (after u (prefix_of p)) i)

  X_apart : Memᴰ u X → ⊥
  X_apart i = right_asymmetric (prefix_of p) (admitted_proper p c admitted).prefix_distinct u u (X_right u i) (X_right u i)

  pub X_range : (v : ℕ) → Memᴰ v X → Ranged v
  X_range v i =
      let x = Memᴰ.of_map (λ (x : Entry). x.variable) (prefix_of p) (after_within u (prefix_of p) (X_right v i)) in
      rw x.2 at ((admitted_entries p c admitted).ranged x.0 x.1)

  -- the mark of a literal of u before it is set
  pub source_open : (s : Bool) → get_or (open_entries (after u (prefix_of p)) (replicate 2050 0)) (slot u s) 0 ≡ 0
  source_open s = source_closed (map clause_of (clauses_of c)) (after u (prefix_of p)) X_range u s range X_apart s

  module _ (s : Bool) (m : List ℕ) (settled : Settled (clauses_of c) (set (open_entries (after u (prefix_of p)) (replicate 2050 0)) (slot u s) 3) m) where
    kept : Kept (map clause_of (clauses_of c)) X (literal u s) m
    kept =
        subst (λ (k : List ℕ). Kept (map clause_of (clauses_of c)) X (literal u s) k) (sym settled.passed)
        (passes_kept (map clause_of (clauses_of c)) X (literal u s) settled.count (clauses_of c) (set (open_entries (after u (prefix_of p)) (replicate 2050 0)) (slot u s) 3)
        (λ C i. Memᴰ.map clause_of i)
        (start_kept (map clause_of (clauses_of c)) (after u (prefix_of p)) X_range u s range X_apart))

    pub searched : Searched (formula_of p c) u s m
    searched =
        record {
          size = kept.size;
          reached = λ e t i q. paths_reached (clauses_of c) X (literal u s) m kept settled.back settled.still range X_range (literal e t) q i;
          only = λ e t h. only' e t h;
        }
      where
        only' : (e : ℕ) (t : Bool) → get_or m (slot e (not t)) 0 ≡ 2 → Memᴰ e X × Path (map clause_of (clauses_of c)) X (literal u s) (literal e t)
        only' e t h =
            let r = kept.reached (literal e (not t)) h in
            (r.0, subst (λ (l : Literal). Path (map clause_of (clauses_of c)) X (literal u s) l) (neg_neg (literal e t)) r.1)
