-- What a prefix and tables that passed their check, as the code holds them, stand for: entries, and a formula.
use Rattle.qbf.specs.Formula.{Formula, Prefix}
use Rattle.formula.specs.Prefix.{prefix_of}
use Rattle.formula.specs.Decode.{formula_of}
use Rattle.formula.specs.declared.prefix.Prefix.{Prefix as PrefixHeld}
use Rattle.formula.specs.declared.tables.Tables.{Tables}

abbrev pub prefix_in : PrefixHeld → Prefix
prefix_in p = prefix_of p.words.now

abbrev pub formula_in : Tables → Formula
formula_in t = formula_of t.prefix.now t.clauses.now
