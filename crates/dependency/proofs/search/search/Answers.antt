-- `search` opens, starts and settles: what the marks then say is `searched` of Search/Laws. Assumes nothing.
use Prim.Native.Nat.{ℕ}
use mathlib.Core.Path.{◌≡◌, ap, ◌∙◌}
use mathlib.Core.Bool.{Bool, true, false}
use mathlib.Core.List.{List}
use native.Mathlib.Omega.{arith}
use lib.IntN.{ℤ}
use lib.ListN.{get_or, set, replicate}
use Rattle.qbf.specs.Formula.{after}
use Rattle.formula.specs.Word.{slot}
use Rattle.formula.specs.Prefix.{prefix_of}
use Rattle.dependency.specs.Search.{open_entries, ones}
use Rattle.dependency.specs.Search.Laws.{source_open, searched}
use Rattle.dependency.specs.Bits.{marks_in}
use Rattle.dependency.specs.Bits.Count.{ones_kept}
use Rattle.dependency.proofs.search.search.Goals as goal

-- The marks once what is right of the universal is opened.
abbrev opened : List ℤ → ℕ → List ℕ
opened prefix u = open_entries (after u (prefix_of prefix)) (replicate 2050 0)

-- The marks where the passes begin have as many open literals as those before.
module _
    (prefix : List ℤ)
    (u : ℕ)
    (m m' : Bool → List ℕ)
    (closed : (t : Bool) → get_or (opened prefix u) (slot u t) 0 ≡ 0)
    (e : (t : Bool) → m t ≡ opened prefix u)
    (b : (t : Bool) → m' t ≡ set (m t) (slot u t) 3)
  where
    begun : (t : Bool) → m' t ≡ set (opened prefix u) (slot u t) 3
    begun t = b t ∙ ap (λ (l : List ℕ). set l (slot u t) 3) (e t)

    same_ones : (t : Bool) → ones (m' t) ≡ ones (m t)
    same_ones t = rw (e t) (ap ones (begun t) ∙ ones_kept (opened prefix u) (slot u t) (closed t))

pub start-requires : goal.start-requires
start-requires c =
    let T = c.args.tables in
    let right = rw c.entries.ensures at c.open_right.ensures in
    record { in_range = c.requires; unmarked = λ t. rw (right.marks t) (source_open T.prefix.now T.clauses.now T.admitted c.args.variable.0 c.requires t) }

pub settle-requires : goal.settle-requires
settle-requires c =
    let T = c.args.tables in
    let x = T.prefix.now in
    let u = c.args.variable.0 in
    let o = c.open_right.new.marks in
    let k =
    same_ones
    x
    u
    (λ (t : Bool). marks_in t o)
    (λ (t : Bool). marks_in t c.start.new.marks)
    (source_open x T.clauses.now T.admitted u c.requires)
    (rw c.entries.ensures at c.open_right.ensures).marks
    c.start.ensures
    in
    omega (arith, k true, k false, c.count_open-unreached.ensures)

pub returns : goal.returns
returns c t =
    let T = c.args.tables in
    let x = T.prefix.now in
    let u = c.args.variable.0 in
    let o = c.open_right.new.marks in
    let k =
    begun
    x
    u
    (λ (s : Bool). marks_in s o)
    (λ (s : Bool). marks_in s c.start.new.marks)
    (source_open x T.clauses.now T.admitted u c.requires)
    (rw c.entries.ensures at c.open_right.ensures).marks
    c.start.ensures
    t
    in
    searched x T.clauses.now T.admitted u c.requires t (marks_in t c.settle.new.marks) (rw k at (c.settle.ensures t))
