-- What is left to store is the text of the words that the loop has not passed.
use Rattle.std.proofs.Common.{drop}
use Rattle.formula.specs.Store.{Remains}
use Rattle.formula.specs.Write.Stream.{clauses_text}
use Rattle.formula.proofs.write.write_clauses.Given as goal

abbrev pub invariant-loop-word : goal.invariant-loop-word
invariant-loop-word l = Remains l.initial.text l.at (clauses_text l.clauses) l.text l.next (clauses_text (drop l.word-index l.clauses))
