use native.Mathlib.Omega.{arith}
use Rattle.sets.proofs.Laws.{no_role, highest_is}
use Rattle.sets.proofs.highest.Goals as goal

pub returns-then-s-eq0 : goal.returns-then-s-eq0
returns-then-s-eq0 c = no_role c.if-s-eq0.true

pub returns : goal.returns
returns c = highest_is c.args.s (omega arith) c.ranges.s.fits
