-- The clauses that are numbered, and one that was looked for among them.
use Rattle.std.specs.Prelude.{List, Option as Optional, None, Some}
use Rattle.std.proofs.Math.Option.{Option, none, some}
use Rattle.inference.specs.declared.clause.ClauseAt.{ClauseAt}
use Rattle.inference.specs.declared.numbered.Known.{Known}
use Rattle.inference.specs.Words.{Words}
use Rattle.inference.specs.Clause.{words_of}
use Rattle.inference.specs.Numbered.{stored}

abbrev pub known_in : Known → List Words
known_in n = stored n.inputs n.clauses.now n.steps.now n.offsets.now n.count

abbrev pub words_if : Optional ClauseAt → Option Words
words_if None = none
words_if (Some clause) = some (words_of clause)
