use mathlib.Core.Path.{refl, sym}
use Rattle.hierarchy.specs.Tables.{join, joins}
use Rattle.hierarchy.proofs.Joins.{join_out, out_join}
use Rattle.scopes.proofs.kinds.join.Goals as goal
use Rattle.scopes.proofs.kinds.join.Goals.{else-first-lt5-via-then-first-lt5+else-second-lt5, else-first-lt5-via-else-first-lt5}

pub returns-then-second-lt5 : goal.returns-then-second-lt5
unfolding join joins
returns-then-second-lt5 c = refl

pub returns : goal.returns
returns c = elim c.else-first-lt5.branch [
  | else-first-lt5-via-then-first-lt5+else-second-lt5 w ↦ sym (join_out _ _ w.if-second-lt5.false)
  | else-first-lt5-via-else-first-lt5 w ↦ sym (out_join _ _ w.if-first-lt5.false)
]
