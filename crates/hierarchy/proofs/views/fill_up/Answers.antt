use borrow.Author.Rules.{rules}
use mathlib.Core.Path.{refl, sym}
use Rattle.hierarchy.proofs.Rows.{turning_start, turning_turn, turning_end}
use Rattle.hierarchy.proofs.views.fill_up.Goals as goal

pub loop-x-init : goal.loop-x-init
loop-x-init c = (turning_start refl (search rules), refl)

pub loop-x-preserved : goal.loop-x-preserved
loop-x-preserved c = (turning_turn c.in-Some.ensures.steps c.loop-x.invariant.0 c.mark.ensures, c.loop-x.invariant.1)

pub returns-clause-turned : goal.returns-clause-turned
returns-clause-turned c = rw (sym c.loop-x.invariant.1) (turning_end c.in-None.ensures.steps.0 c.loop-x.invariant.0)
