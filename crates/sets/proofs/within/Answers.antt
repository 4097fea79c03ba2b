use native.Mathlib.Omega.{arith}
use Rattle.sets.proofs.Laws.{minus_part}
use Rattle.sets.proofs.within.Goals as goal

pub returns : goal.returns
returns c = minus_part c.args.s c.args.t c.minus.result (omega (arith, c.minus.type_inv)) c.minus.ensures
