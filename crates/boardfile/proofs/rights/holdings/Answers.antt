use mathlib.Core.Path.{refl, subst}
use native.Mathlib.Omega.{arith}
use Rattle.frames.specs.Framing.{GoodFrame}
use Rattle.boardfile.proofs.RightBytes.{rights_founding}
use Rattle.boardfile.proofs.rights.holdings.Goals as goal

pub returns-then-needed : goal.returns-then-needed
returns-then-needed c = rw c.if-not-f.false (c.in_ok-rights.ensures, grind (arith, c.founding-needed.ensures, c.if-needed.true))

pub returns-else-needed : goal.returns-else-needed
returns-else-needed c =
    let f = c.args.f.now in
    (rights_founding (subst (GoodFrame _ _ _) c.if-not-f.false f.framed) f.listed c.in_ok-rights.ensures (grind (arith, c.founding-needed.ensures, c.if-needed.false)), refl)
