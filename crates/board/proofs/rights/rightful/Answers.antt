use native.Mathlib.Omega.{arith}
use borrow.Author.Count.{below_more}
use Rattle.sets.proofs.Bools.{false_no}
use Rattle.board.proofs.rights.rightful.Goals as goal
use Rattle.board.proofs.rights.rightful.Goals.{else-held-ne0-via-then-held-ne0+else-not-may_hold, else-held-ne0-via-else-held-ne0}

pub loop-x-preserved : goal.loop-x-preserved
loop-x-preserved c = below_more _ _ c.loop-x.invariant (elim c.else-held-ne0.branch [
  | else-held-ne0-via-then-held-ne0+else-not-may_hold w ↦ let m = w.may_hold.ensures.0 w.if-not-may_hold.false in (m.0, λ d. absurd (false_no d m.1))
  | else-held-ne0-via-else-held-ne0 w ↦ (omega (arith, w.if-held-ne0.false), λ _. w.if-held-ne0.false)
])
