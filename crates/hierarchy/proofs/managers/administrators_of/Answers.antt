use Rattle.hierarchy.proofs.Managing.{narrow_turn, narrow_end}
use Rattle.hierarchy.proofs.managers.administrators_of.Goals as goal

pub loop-x-preserved : goal.loop-x-preserved
loop-x-preserved c = narrow_turn _ _ c.union.result c.common-found.result c.in-Some.ensures.steps c.loop-x.invariant c.union.ensures c.common-found.ensures

pub returns : goal.returns
returns c = narrow_end _ _ c.requires c.without-found.ensures c.in-None.ensures.steps.0 c.loop-x.invariant
