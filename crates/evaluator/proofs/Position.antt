-- The first variable left of a prefix: whose turn it is, what is left after it, and what the position is by its two
-- values, the bytes being stored to and put back. Assumes nothing.
use Prim.Native.Nat.{ℕ, ◌<◌, ◌≤◌}
use mathlib.Core.Path.{◌≡◌, refl, ap, sym, ◌∙◌}
use mathlib.Core.Bool.{Bool, true, false, false≢true}
use mathlib.Core.List.{List, [], ◌∷◌, Memᴰ}
use native.Mathlib.Omega.{arith}
use lib.IntN.{ℤ}
use lib.ListN.{length, get_or, set, length-set}
use lib.Seq.{set-set, set-get_or}
use Rattle.qbf.specs.Literal.{Matrix}
use Rattle.qbf.specs.Formula.{Quantifier, existential, universal, Entry, Prefix}
use Rattle.qbf.specs.Play.{Values, assign, turn, lost, falsified}
use Rattle.formula.specs.Bounds.{variable_bound}
use Rattle.formula.specs.Prefix.{prefix_of, entry_at, entry_count, later_entries, is_quantifier, Entries}
use Rattle.formula.specs.Prefix.Laws.{entries_drop, later_entries_lem, later_shorter}
use Rattle.evaluator.specs.Values.{values_of}
use Rattle.evaluator.specs.Values.Laws.{values_set}
use Rattle.evaluator.specs.Turns.{universal_due, due, Due}

-- v is the first variable of the prefix, on the side q, and `rest` is what is left after it
pub record Opened (q : Quantifier) (n : ℕ) (prefix : List ℤ) (v : ℕ) (rest : List ℤ) : Type 0 where
  pub small : v < n
  pub reach : variable_bound < n
  pub shorter : length rest < length prefix
  pub plays : (τ : Values) (M : Matrix)
      → lost (prefix_of prefix) τ M ≡ turn q (lost (prefix_of rest) (assign τ v false) M) (lost (prefix_of rest) (assign τ v true) M)

-- the first entry, then those after it
first_entry : (ws : List ℤ) → 0 < entry_count ws → prefix_of ws ≡ entry_at ws 0 ∷ prefix_of (later_entries ws)
first_entry ws h = entries_drop ws 0 h ∙ ap {B = Prefix} (λ P. entry_at ws 0 ∷ P) (sym (later_entries_lem ws))

pub first_bound : (ws : List ℤ) → Entries ws → 0 < entry_count ws → (entry_at ws 0).variable ≤ variable_bound
first_bound ws d h = let r = d.ranged (entry_at ws 0) (rw (first_entry ws h) (Memᴰ.head refl)) in omega (arith, r.1)

lost_first :
    (q : Quantifier) (P R : Prefix) (x : Entry) (τ : Values) (M : Matrix) → P ≡ x ∷ R → due P ≡ q
    → lost P τ M ≡ turn q (lost R (assign τ x.variable false) M) (lost R (assign τ x.variable true) M)
unfolding lost
lost_first q P R x τ M e f = let k : x.quantifier ≡ q = sym (ap due e) ∙ f in rw (e, k)

pub opened : (q : Quantifier) (n : ℕ) (prefix : List ℤ) (v : ℕ) (rest : List ℤ)
    → Entries prefix → Due q n prefix → 0 < entry_count prefix → v ≡ (entry_at prefix 0).variable → rest ≡ later_entries prefix
    → Opened q n prefix v rest
opened q n prefix v rest r d h e f =
    let split = first_entry prefix h in
    rw (f, e)
    (record {
      small = omega (arith, first_bound prefix r h, d.reach);
      reach = d.reach;
      shorter = later_shorter prefix h;
      plays = λ τ M. lost_first q (prefix_of prefix) (prefix_of (later_entries prefix)) (entry_at prefix 0) τ M split d.first;
    })

-- the side that is due after it
abbrev side : Bool → Quantifier
side true = universal
side false = existential

due_side : (P : Prefix) (b : Bool) → universal_due P ≡ b → due P ≡ side b
unfolding universal_due
due_side [] true e = absurd (false≢true e)
due_side [] false e = refl
due_side (x ∷ P) b e = go x.quantifier refl b e
  where
    go : (q : Quantifier) → x.quantifier ≡ q → (b : Bool) → is_quantifier universal x.quantifier ≡ b → x.quantifier ≡ side b
    go existential k true f = absurd (false≢true (rw k at f))
    go existential k false f = k
    go universal k true f = k
    go universal k false f = absurd (false≢true (sym (rw k at f)))

module _ (n : ℕ) (ws : List ℤ) (reach : variable_bound < n) where
  pub due_universal : universal_due (prefix_of ws) ≡ true → Due universal n ws
  due_universal e = record { first = due_side (prefix_of ws) true e; reach = reach }

  pub due_existential : universal_due (prefix_of ws) ≡ false → Due existential n ws
  due_existential e = record { first = due_side (prefix_of ws) false e; reach = reach }

-- where the universal side is due a variable is left
pub universal_left : {n : ℕ} (ws : List ℤ) → Due universal n ws → 0 < entry_count ws
universal_left ws d = left (prefix_of ws) d.first
  where
    left : (P : Prefix) → due P ≡ universal → 0 < length P
    left [] e = let z : ◌≡◌ {A = ℕ} 0 1 = cc in absurd (omega arith)
    left (x ∷ P) e = omega arith

-- nothing left
pub lost_none : (prefix : List ℤ) (τ : Values) (M : Matrix) → entry_count prefix ≡ 0 → lost (prefix_of prefix) τ M ≡ falsified τ M
unfolding lost
lost_none prefix τ M h = none_left (prefix_of prefix) h
  where
    none_left : (P : Prefix) → length P ≡ 0 → lost P τ M ≡ falsified τ M
    none_left [] e = refl
    none_left (x ∷ P) e = absurd (omega arith)

-- a side is handed the rest: its measure falls, and the side is due
module _ {q : Quantifier} {n : ℕ} {prefix rest : List ℤ} {v : ℕ} (t m : ℕ) (o : Opened q n prefix v rest) (due : Bool) where
  pub hand_universal : length prefix ≡ t → m ≡ n → due ≡ universal_due (prefix_of rest) → due ≡ true → (length rest < t) × Due universal m rest
  hand_universal h k e d = (omega (arith, o.shorter), rw k (due_universal n rest o.reach (sym e ∙ d)))

  pub hand_existential : length prefix ≡ t → m ≡ n → due ≡ universal_due (prefix_of rest) → due ≡ false → (length rest < t) × Due existential m rest
  hand_existential h k e d = (omega (arith, o.shorter), rw k (due_existential n rest o.reach (sym e ∙ d)))

-- the first call has answered at 0 and left the values as they were lent
pub record Once (q : Quantifier) (prefix rest : List ℤ) (vs : List ℕ) (v : ℕ) (M : Matrix) (zero-lost : Bool) (left : List ℕ) : Type 0 where
  pub opening : Opened q (length vs) prefix v rest
  pub zero : zero-lost ≡ lost (prefix_of rest) (values_of (set vs v 0)) M
  pub kept : left ≡ set vs v 0

-- the second has, at 1
pub record Twice (q : Quantifier) (prefix rest : List ℤ) (vs : List ℕ) (v : ℕ) (M : Matrix) (zero-lost one-lost : Bool) (left last : List ℕ) : Type 0 where
  pub once : Once q prefix rest vs v M zero-lost left
  pub one : one-lost ≡ lost (prefix_of rest) (values_of (set left v 1)) M
  pub kept : last ≡ set left v 1

module _ {q : Quantifier} {prefix rest : List ℤ} {vs : List ℕ} {v : ℕ} {M : Matrix} {zero-lost : Bool} {left : List ℕ}
    (o : Once q prefix rest vs v M zero-lost left) where
  left_length : length left ≡ length vs
  left_length = rw o.kept (length-set vs v 0)

  pub once_length : (b : ℕ) → length (set left v b) ≡ length vs
  once_length b = length-set left v b ∙ left_length

  pub once_turn : lost (prefix_of prefix) (values_of vs) M ≡ turn q zero-lost (lost (prefix_of rest) (assign (values_of vs) v true) M)
  once_turn =
      o.opening.plays (values_of vs) M
      ∙ ap (λ (b : Bool). turn q b (lost (prefix_of rest) (assign (values_of vs) v true) M))
      (ap (λ (τ : Values). lost (prefix_of rest) τ M) (sym (values_set vs v 0 o.opening.small)) ∙ sym o.zero)

module _ {q : Quantifier} {prefix rest : List ℤ} {vs : List ℕ} {v : ℕ} {M : Matrix} {zero-lost one-lost : Bool} {left last : List ℕ}
    (w : Twice q prefix rest vs v M zero-lost one-lost left last) where
  last_is : last ≡ set vs v 1
  last_is = w.kept ∙ ap (λ (l : List ℕ). set l v 1) w.once.kept ∙ set-set vs v 0 1

  pub twice_turn : lost (prefix_of prefix) (values_of vs) M ≡ turn q zero-lost one-lost
  twice_turn =
      once_turn w.once
      ∙ ap (turn q zero-lost)
      (ap (λ (τ : Values). lost (prefix_of rest) τ M) (sym (values_set vs v 1 w.once.opening.small))
      ∙ ap (λ (l : List ℕ). lost (prefix_of rest) (values_of l) M) (sym last_is ∙ w.kept)
      ∙ sym w.one)

-- the values are put back
pub back_once : (vs left : List ℕ) (v : ℕ) → left ≡ set vs v 0 → set left v (get_or vs v 0) ≡ vs
back_once vs left v k = rw k (set-set vs v 0 (get_or vs v 0) ∙ set-get_or vs v 0)

pub back_twice : (vs left last : List ℕ) (v : ℕ) → left ≡ set vs v 0 → last ≡ set left v 1 → set last v (get_or vs v 0) ≡ vs
back_twice vs left last v k l = rw (l, k, set-set vs v 0 1) (set-set vs v 1 (get_or vs v 0) ∙ set-get_or vs v 0)
