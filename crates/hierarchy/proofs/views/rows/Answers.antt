use borrow.Author.Rules.{rules}
use Rattle.hierarchy.proofs.Walk.{gather_start, gather_turn}
use Rattle.hierarchy.proofs.views.rows.Goals as goal

pub loop-y-init : goal.loop-y-init
loop-y-init c = gather_start (search rules)

pub loop-y-preserved : goal.loop-y-preserved
loop-y-preserved c = gather_turn c.union-sum.result c.in-Some.ensures.steps c.loop-y.invariant c.union-sum.ensures
