use Rattle.hierarchy.proofs.Rows.{Marking}
use Rattle.hierarchy.proofs.views.mark.Given as goal

abbrev pub invariant-loop-y : goal.invariant-loop-y
invariant-loop-y l = Marking l.initial.up l.s l.x l.up l.y-iterator.left
