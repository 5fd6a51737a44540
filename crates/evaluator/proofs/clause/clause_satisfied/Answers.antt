-- `clause_satisfied` stops at the clause's first true literal or at its 0: from every place before that, the clause has a
-- true literal or has none. Assumes nothing.
use Prim.Native.Nat.{ℕ, ◌+◌, ◌<◌}
use mathlib.Core.Path.{◌≡◌, sym, ◌∙◌}
use mathlib.Core.Bool.{Bool, true, false, ◌||◌}
use mathlib.Core.List.{List}
use borrow.Author.Rules.{rules}
use lib.IntN.{ℤ, pos}
use lib.ListN.{length, get_or}
use Rattle.qbf.specs.Play.{Values, true_literal, satisfied}
use Rattle.formula.specs.Word.{is_zero}
use Rattle.formula.specs.Decode.{literal_of, first_clause, clause_at, clause_of}
use Rattle.evaluator.specs.Values.{values_of}
use Rattle.evaluator.proofs.Signed.{read_back}
use Rattle.evaluator.proofs.Words.{satisfied_at_zero, satisfied_at_word, satisfied_at_end}
use Rattle.evaluator.proofs.clause.clause_satisfied.Goals as goal

pub returns-then-is_zero : goal.returns-then-is_zero
returns-then-is_zero c =
    let l = c.loop-word in
    let ws = c.args.words.now in
    let z = rw (read_back (get_or ws l.word-index (pos 0)) (search rules)) at c.is_zero.ensures in
    sym (satisfied_at_zero (values_of c.args.values.now) ws l.word-index (search rules) (sym z ∙ c.if-is_zero.true)) ∙ l.invariant

-- The literal at the place i is true or not, as b tells: then the clause has a true literal, or as it goes on at the next place.
turn :
    (τ : Values) (ws : List ℤ) (i : ℕ) (zero b : Bool) → i < length ws → zero ≡ is_zero (get_or ws i (pos 0)) → zero ≡ false
    → b ≡ true_literal τ (literal_of (get_or ws i (pos 0)))
    → satisfied τ (clause_of (clause_at ws i)) ≡ satisfied τ (clause_of (first_clause ws))
    → (b || satisfied τ (clause_of (clause_at ws (i + 1)))) ≡ satisfied τ (clause_of (first_clause ws))
turn τ ws i zero b h z e t so_far = rw t (sym (satisfied_at_word τ ws i h (sym z ∙ e)) ∙ so_far)

pub returns-then-literal_true : goal.returns-then-literal_true
returns-then-literal_true c =
    let l = c.loop-word in
    let ws = c.args.words.now in
    let e = read_back (get_or ws l.word-index (pos 0)) (search rules) in
    turn (values_of c.args.values.now) ws l.word-index c.is_zero.result true (search rules) (rw e at c.is_zero.ensures) c.if-is_zero.false
    (sym c.if-literal_true.true ∙ (rw e at c.literal_true.ensures)) l.invariant

pub loop-word-preserved : goal.loop-word-preserved
loop-word-preserved c =
    let l = c.loop-word in
    let ws = c.args.words.now in
    let e = read_back (get_or ws l.word-index (pos 0)) (search rules) in
    turn (values_of c.args.values.now) ws l.word-index c.is_zero.result false (search rules) (rw e at c.is_zero.ensures) c.if-is_zero.false
    (sym c.if-literal_true.false ∙ (rw e at c.literal_true.ensures)) l.invariant

pub returns : goal.returns
returns c = sym (satisfied_at_end (values_of c.args.values.now) c.args.words.now c.loop-word.word-index (search rules)) ∙ c.loop-word.invariant
