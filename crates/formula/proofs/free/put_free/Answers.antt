-- `put_free` has put the entries of the free variables so far. Assumes nothing.
use Rattle.std.proofs.Common.{◌≡◌, suc, ◌+◌, ◌-◌, sym, ◌∙◌, add-one, arith}
use Rattle.formula.proofs.Theorems.Free.Complete.Laws.{put_begins, put_skips, put_fits, put_adds}
use Rattle.formula.proofs.free.put_free.Goals as goal
use Rattle.formula.proofs.free.put_free.Goals.{then-is_free, else-is_free}

pub loop-n-init : goal.loop-n-init
loop-n-init c = put_begins c.args.marks.now c.args.variables c.args.prefix.now

pub put_variable-at-requires : goal.put_variable-at-requires
put_variable-at-requires c =
    let l = c.loop-n in
    (omega arith, omega arith, put_fits {n = l.n} (omega arith) c.requires.1 (omega arith) l.invariant (sym c.is_free.ensures ∙ c.if-is_free.true))

pub loop-n-preserved : goal.loop-n-preserved
loop-n-preserved c =
    let l = c.loop-n in
    let next : l.n ≡ suc (l.n - 1) = omega arith in
    let now : l.n + 1 - 1 ≡ l.n = omega arith in
    rw now
    (elim c.if-is_free.branch [
      | then-is_free b ↦ rw (b.at-is, b.prefix-is, b.put_variable-at.ensures.1, b.put_variable-at.ensures.0, add-one) (put_adds next c.requires.1 (omega arith) l.invariant (sym c.is_free.ensures ∙ b.if-is_free.true) (omega arith))
      | else-is_free b ↦ rw (b.at-is, b.prefix-is) (put_skips next c.requires.1 (omega arith) l.invariant (sym c.is_free.ensures ∙ b.if-is_free.false))
    ])
