use Rattle.effects.proofs.Edits.{Leaving}
use Rattle.effects.proofs.tables.leave.Given as goal

abbrev pub invariant-loop-row : goal.invariant-loop-row
invariant-loop-row l = Leaving l.initial.t l.junior l.t l.row-index
