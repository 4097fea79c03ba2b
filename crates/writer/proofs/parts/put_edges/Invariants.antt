use Rattle.writer.proofs.Writings.{EdgesPut}
use Rattle.writer.proofs.parts.put_edges.Given as goal

abbrev pub invariant-loop-x : goal.invariant-loop-x
invariant-loop-x l = EdgesPut l.t l.initial.out l.out l.at l.x
