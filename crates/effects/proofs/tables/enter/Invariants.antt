use Rattle.effects.proofs.Edits.{Entering}
use Rattle.effects.proofs.tables.enter.Given as goal

abbrev pub invariant-loop-x : goal.invariant-loop-x
invariant-loop-x l = Entering l.initial.t l.seniors l.junior l.part l.t l.x-iterator.left
