use Rattle.hierarchy.proofs.Walk.{Gathered}
use Rattle.hierarchy.proofs.views.rows.Given as goal

abbrev pub invariant-loop-y : goal.invariant-loop-y
invariant-loop-y l = Gathered l.table l.s l.sum l.y-iterator.left
