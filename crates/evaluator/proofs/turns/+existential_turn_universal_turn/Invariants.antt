-- What is left of the prefix gets shorter at each call.
use Rattle.std.proofs.Common.{length}
use Rattle.evaluator.proofs.turns.+existential_turn_universal_turn.Given as goal

abbrev pub decreases-existential_turn : goal.decreases-existential_turn
decreases-existential_turn l = length l.prefix.words.now

abbrev pub decreases-universal_turn : goal.decreases-universal_turn
decreases-universal_turn l = length l.prefix.words.now
