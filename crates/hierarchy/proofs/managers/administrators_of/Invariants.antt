use Rattle.hierarchy.specs.Tables.{row}
use Rattle.hierarchy.proofs.Managing.{Narrowed}
use Rattle.hierarchy.proofs.managers.administrators_of.Given as goal

abbrev pub invariant-loop-x : goal.invariant-loop-x
invariant-loop-x l = Narrowed l.kept.derives l.kept.derivers (row l.kept.derivers l.r) l.initial.found l.found l.x-iterator.left
