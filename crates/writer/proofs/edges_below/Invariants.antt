use lib.ListN.{length}
use Rattle.writer.proofs.Counts.{Counted}
use Rattle.writer.proofs.edges_below.Given as goal

abbrev pub invariant-loop-i : goal.invariant-loop-i
invariant-loop-i l = Counted l.fn.t l.n (length l.yielded)
