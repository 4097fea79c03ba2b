use Rattle.board.proofs.Fitting.{FitsBelow}
use Rattle.board.proofs.rights.rightful.Given as goal

abbrev pub invariant-loop-x : goal.invariant-loop-x
invariant-loop-x l = FitsBelow l.live l.rights l.x
