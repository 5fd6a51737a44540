-- `write_spaced` stores the digits, then a space. Assumes nothing.
use Rattle.formula.specs.Store.Laws.{stores_append}
use Rattle.formula.proofs.write.write_spaced.Goals as goal

pub returns : goal.returns
returns c = stores_append c.write_number-next.ensures c.put.ensures
