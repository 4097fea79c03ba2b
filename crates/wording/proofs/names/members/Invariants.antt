use Rattle.wording.proofs.Lists.{Listing}
use Rattle.wording.proofs.names.members.Given as goal

abbrev pub invariant-loop-piece : goal.invariant-loop-piece
invariant-loop-piece g l = Listing g.name_of l.text l.set l.piece-iterator
