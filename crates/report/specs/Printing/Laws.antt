-- A text stored from a buffer's start and finished is printed. Assumes nothing.
use Rattle.std.specs.Prelude.{ℕ, ◌≡◌, refl, Bool, true, false, List, length, replicate, leb}
use Rattle.std.proofs.Common.{ap, ◌∙◌, arith, leb-true}
use Rattle.std.proofs.lemmas.List.Edits.{sets}
use Rattle.std.proofs.Math.Seq.{length-sets}
use Rattle.formula.specs.Clear.{clear_from}
use Rattle.formula.specs.Clear.Laws.{clear_all, clear_stored}
use Rattle.formula.specs.Store.{Stores}
use Rattle.report.specs.Printing.{Finishes, StoresShort, Prints}

-- A buffer that kept its length and was then cleared.
pub cleared_kept : {A : Type 0} (z : A) (before middle after : List A) → after ≡ clear_from z 0 middle → length middle ≡ length before → after ≡ replicate (length before) z
cleared_kept z before middle after e k = e ∙ clear_all z middle ∙ ap (λ n. replicate n z) k

-- A text that equals what was stored.
pub stores_instead : {most : ℕ} {buffer after text stored : List ℕ} {next : ℕ} → text ≡ stored → StoresShort most buffer stored after next → StoresShort most buffer text after next
stores_instead e s = rw e s

pub stored_prints :
    {buffer middle after text : List ℕ} {end answer : ℕ} → Stores buffer 0 text middle end → Finishes middle end answer after → Prints (length buffer) text answer after
stored_prints {buffer} {middle} {after} {text} {end} {answer} s f =
    let room : length middle ≡ length buffer = ap length s.stored ∙ length-sets buffer 0 text in
    let whole : end ≡ length text = omega (arith, s.reached) in
    go (leb (length text) (length buffer)) refl room whole
  where
    go : (b : Bool) → leb (length text) (length buffer) ≡ b → length middle ≡ length buffer → end ≡ length text → Prints (length buffer) text answer after
    go true e room whole =
        record {
          answers = rw e (rw (whole, room, e) at f.answers);
          prints = rw e (rw (whole, room, e, s.stored) at f.leaves ∙ clear_stored 0 buffer text (leb-true (length text) (length buffer) e));
        }
    go false e room whole =
        record {
          answers = rw e (rw (whole, room, e) at f.answers);
          prints =
              rw e
              (rw (whole, room, e, s.stored) at f.leaves
              ∙ clear_all 0 (sets buffer 0 text)
              ∙ ap {B = List ℕ} (λ n. replicate n 0) (length-sets buffer 0 text));
        }
