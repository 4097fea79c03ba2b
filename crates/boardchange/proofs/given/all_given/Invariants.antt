use Rattle.std.specs.Iterator.Adapters.{enumerate_count, enumerate_source}
use Rattle.boardchange.proofs.Giving.{SoFar}
use Rattle.boardchange.proofs.given.all_given.Given as goal

abbrev pub invariant-loop-k : goal.invariant-loop-k
invariant-loop-k l = SoFar l.initial.b l.text (enumerate_count l.k-iterator) (enumerate_source l.k-iterator) l.b l.done
