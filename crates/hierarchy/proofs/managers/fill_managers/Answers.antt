use borrow.Author.Rules.{rules}
use mathlib.Core.Path.{refl}
use Rattle.hierarchy.proofs.Managing.{fill_start, fill_turn, fill_end}
use Rattle.hierarchy.proofs.managers.fill_managers.Goals as goal

pub loop-r-init : goal.loop-r-init
loop-r-init c = (fill_start refl (search rules), (refl, refl))

pub loop-r-preserved : goal.loop-r-preserved
loop-r-preserved c = (fill_turn c.administrators_of.result c.unwrap_or.result c.in-Some.ensures.steps c.loop-r.invariant.0 c.administrators_of.ensures (rw c.unwrap_or.ensures c.nearest.ensures), c.loop-r.invariant.1)

pub returns-clause-filled : goal.returns-clause-filled
returns-clause-filled c = λ t o. fill_end c.in-None.ensures.steps.0 c.loop-r.invariant.0 t (rw (c.loop-r.invariant.1.0, c.loop-r.invariant.1.1) o)
