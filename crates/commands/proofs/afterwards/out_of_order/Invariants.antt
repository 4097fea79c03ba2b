use Rattle.commands.proofs.Late.{Looked}
use Rattle.commands.proofs.afterwards.out_of_order.Given as goal

abbrev pub invariant-loop-x : goal.invariant-loop-x
invariant-loop-x l = Looked l.t.live l.t.i l.t.a l.x-iterator.left
