use borrow.Author.Rules.{rules}
use Rattle.hierarchy.proofs.Walk.{settled_is}
use Rattle.hierarchy.proofs.views.settle.Goals as goal

pub returns : goal.returns
returns c = settled_is c.rows-below.result c.union-row.result c.requires (search rules) c.rows-below.ensures c.union-row.ensures
