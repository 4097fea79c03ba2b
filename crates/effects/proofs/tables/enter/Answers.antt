use native.Mathlib.Omega.{arith}
use Rattle.effects.proofs.Edits.{entering_turn}
use Rattle.effects.proofs.tables.enter.Goals as goal

pub loop-x-preserved : goal.loop-x-preserved
loop-x-preserved c = entering_turn c.put.result (omega (arith, c.put.type_inv)) c.loop-x.invariant c.in-Some.ensures.steps c.put.ensures
