-- The words of a clause that stands in a table.
use Rattle.formula.specs.Decode.{clause_at}
use Rattle.inference.specs.declared.clause.ClauseAt.{ClauseAt}
use Rattle.inference.specs.Words.{Words}

abbrev pub words_of : ClauseAt → Words
words_of clause = clause_at clause.words.now clause.from
