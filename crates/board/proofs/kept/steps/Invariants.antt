use Rattle.board.proofs.Reading.{Climbing}
use Rattle.board.proofs.kept.steps.Given as goal

abbrev pub invariant-loop-n : goal.invariant-loop-n
invariant-loop-n l = Climbing l.kept.manager l.r l.x l.n
