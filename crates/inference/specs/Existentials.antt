-- Which variables have a quantifier, as the code keeps it: a flag for each variable, that of v at v - 1. That the flags answer the tests of a
-- scope is in Existentials/Laws.antt.
pub mod Laws
use Rattle.std.specs.Prelude.{Option, None}
use Rattle.formula.specs.declared.literal.Variable.{Variable}
use Rattle.std.specs.Prelude.{ℕ, ◌-◌, Bool, true, false, List, [], ◌∷◌, get_or, set, replicate, eqb, ℤ}
use Rattle.qbf.specs.Formula.{Quantifier, existential, Entry, Prefix}
use Rattle.formula.specs.Bounds.{variable_fit}
use Rattle.formula.specs.Prefix.{prefix_of, is_quantifier}
use Rattle.formula.specs.declared.word.Word.{Word}
use Rattle.formula.specs.declared.word.Word.TheVariants.{Zero, TooLarge, Positive, Negative}

-- The flags with a variable's put, where it is asked for.
abbrev pub put_if : Bool → ℕ → List ℕ → List ℕ
put_if true v fs = set fs (v - 1) 1
put_if false v fs = fs

-- With that of an entry's variable put, if it has the quantifier.
abbrev pub quantified_entry : Quantifier → List ℕ → Entry → List ℕ
quantified_entry q fs x = put_if (is_quantifier q x.quantifier) x.variable fs

unfoldable pub flags_from : Quantifier → List ℕ → Prefix → List ℕ
flags_from q fs [] = fs
flags_from q fs (x ∷ P) = flags_from q (quantified_entry q fs x) P

-- The flags of the variables of a prefix that have the quantifier.
unfoldable pub quantified_flags : Quantifier → Prefix → List ℕ
quantified_flags q P = flags_from q (replicate 1024 0) P

abbrev pub existentials_of : List ℤ → List ℕ
existentials_of prefix = quantified_flags existential (prefix_of prefix)

-- The variable of a word that is a positive literal of an existential.
abbrev pub existential_of : List ℕ → Word → Option Variable
existential_of fs Zero = None
existential_of fs TooLarge = None
existential_of fs (Positive v) = variable_fit (eqb (get_or fs (v.0 - 1) 0) 1) v.0
existential_of fs (Negative v) = None
