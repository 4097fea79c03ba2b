use Rattle.wording.proofs.Numbers.{Reading}
use Rattle.wording.proofs.names.role.Given as goal

abbrev pub invariant-loop-b : goal.invariant-loop-b
invariant-loop-b l = Reading l.text l.number l.b-index
