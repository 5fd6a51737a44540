-- What a derivation concludes at a position, against what it concludes: no more, and at the first position, where every entry is
-- to be set, no less. Definitions: Restriction. Assumes nothing.
use Rattle.qbf.specs.Literal.{Literal}
use Rattle.qbf.specs.Formula.{Formula, Prefix, Proper}
use Rattle.qbf.specs.Derivation.{Derivation, leaf, resolve, reduce, Concludes, Valid}
use Rattle.qbf.specs.Restriction.{ConcludesAt}

pub concludes_only : (rest : Prefix) (t : Derivation) (l : Literal) → ConcludesAt rest t l → Concludes t l
concludes_only rest (leaf C) l c = c.0
concludes_only rest (resolve t x) l c = (c.0, concludes_only rest (t c.0) l c.1, c.2)
concludes_only rest (reduce t u) l c = (concludes_only rest t l c.0, c.1)

pub begin_concludes : (F : Formula) → Proper F → (t : Derivation) → Valid F t → (l : Literal) → Concludes t l → ConcludesAt F.prefix t l
begin_concludes F proper (leaf C) v l c = (c, proper.clause_bound C v l c)
begin_concludes F proper (resolve t x) v l c = (c.0, begin_concludes F proper (t c.0) (v.0 c.0) l c.1, c.2)
begin_concludes F proper (reduce t u) v l c = (begin_concludes F proper t v.0 l c.0, c.1)
