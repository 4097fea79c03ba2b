use Rattle.refusals.proofs.Entitling.{Gathered}
use Rattle.refusals.proofs.rights.held_among.Given as goal

abbrev pub invariant-loop-x : goal.invariant-loop-x
invariant-loop-x l = Gathered l.rights l.roles l.all l.x-iterator.left
