use Rattle.hierarchy.proofs.Rows.{marking_turn}
use Rattle.hierarchy.proofs.views.mark.Goals as goal

pub loop-y-preserved : goal.loop-y-preserved
loop-y-preserved c = marking_turn c.with.result c.in-Some.ensures.steps c.loop-y.invariant c.with.ensures
